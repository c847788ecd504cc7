-- Playing a session's log is playing its history; and nothing typed is lost in the texts that are played from logs.
use Prim.Native.Nat.{ℕ, ◌≤◌}
use mathlib.Core.Path.{◌≡◌, sym, ap, ◌∙◌, subst, subst₂}
use mathlib.Core.Logic.{◌↔◌}
use mathlib.Core.Bool.{Bool, false, ◌&&◌}
use mathlib.Core.List.{List, [], ◌∷◌, ◌++◌}
use lib.Dec.{T, eqb, leb}
use lib.ListN.{length, drop}
use Rattle.characters.specs.Form.{is_well_formed}
use Rattle.characters.specs.Chars.{number_of_chars}
use Rattle.characters.specs.Text.{chars, bytes}
use Rattle.buffers.proofs.Tests.{both, holds}
use Rattle.characters.proofs.Texts.{chars_bytes, bytes_chars, chars_length}
use Rattle.answers.specs.Answer.{succeeds, needs}
use Rattle.edits.specs.Sequence.{Seq}
use Rattle.record.specs.Record.{encode, fits}
use Rattle.answers.proofs.Refusals.{needs_out}
use Rattle.record.specs.Layout.{max_size}
use Rattle.record.proofs.Sequences.{Good}
use Rattle.edits.specs.Compose.{compose}
use Rattle.operational_transform.specs.Calls.{apply_call}
use Rattle.edits.specs.Trace.{Within, typed, marked}
use Rattle.answers.specs.Output.{writing}
use Rattle.session_log.specs.Log.{start_of, readable, contents, revisions}
use Rattle.session_log.proofs.Logs.{start_log, revisions_log, readable_log, read_sound}
use Rattle.session.specs.Rows.{play_all, longest, retain_whole, compose_all, composes_within}
use Rattle.session.specs.Session.{summary_fault, summary_call, played, play_fault, play_call}
use Rattle.session.specs.History.{History, fresh, log_in, history_play}
use Rattle.session.specs.Demand.{Fresh, Given, Call, log_after, fed_call, after, run_call}
use Rattle.session.specs.Keeping.{carry_all, newest, Spared, brings}
use Rattle.session.proofs.Rows.{summary, summary_built, summary_base, summary_plays}
use Rattle.session.proofs.Accepting.{SoundIn}
use Rattle.session.proofs.Running.{fed_start, fed_sound, left_log, after_start, after_log, fresh_log}
use Rattle.session.proofs.Meeting.{revisions_in, goes_fed}
use Rattle.session.proofs.Demands.{session_log, session_sound, demand3}
use Rattle.session.proofs.Keeping.{nothing_lost, typed_stands}
use Rattle.answers.specs.Given.{given}
use Rattle.operational_transform.proofs.Laws.{wrote_given, apply_encoded}

-- ---- a log that holds a history

module _ (h : History) (behind : List ℕ) where
  pub play_log : (t : List ℕ) → played (log_in h ++ behind) t ≡ history_play h t
  unfolding played history_play
  play_log t = ap (λ es. bytes (play_all es (chars t))) (revisions_log h.start h.edits behind)

  -- the whole call, with scratch buffers of these sizes
  pub play_call_is : SoundIn h → (t : List ℕ) (x y : ℕ) (out : List ℕ) →
      let need = longest h.edits (chars t) in
      play_call (log_in h ++ behind) t x y out
      ≡ writing (needs (is_well_formed t) 3 (needs (eqb (number_of_chars t) h.start) 8 (needs (leb need x && leb need y) 10 0))) (history_play h t) out
  unfolding play_call play_fault
  play_call_is s t x y out =
      λ i.
      let need = longest (revisions_log h.start h.edits behind i) (chars t) in
      writing
      (needs (is_well_formed t) 3
      (needs (holds (readable (log_in h ++ behind)) (readable_log h.start h.edits behind s) i) 6
      (needs (eqb (number_of_chars t) (start_log h.start h.edits behind i)) 8 (needs (leb need x && leb need y) 10 0))))
      (play_log t i) out

-- ---- the summary's bytes, applied, give what play gives

last_fits : (s : Seq) (es : List Seq) → T (composes_within s es) → T (fits (compose_all s es))
last_fits s [] w = w
last_fits s (e ∷ es) w = last_fits (compose s e) es ((both (fits s) (composes_within (compose s e) es)).0 w).1

module _ (log t x p : List ℕ) where
  pub summary_calls : T (succeeds (summary_call log x).answer) → T (is_well_formed t) → number_of_chars t ≡ start_of log → (out : List ℕ)
      → apply_call (given (summary_call log x) ++ p) t out ≡ writing 0 (played log t) out
  unfolding summary_call summary_fault summary played
  summary_calls g well fit out =
      let n = start_of log in
      let es = revisions log in
      let S = compose_all (retain_whole n) es in
      let w : T (composes_within (retain_whole n) es) × T (readable log) × (given (summary_call log x) ≡ encode S) =
      let (z, w) = wrote_given (needs (readable log) 6 (needs (composes_within (retain_whole n) es) 9 0)) (encode S) x g in
      let (a, z₁) = needs_out (readable log) 5 _ z in
      ((needs_out (composes_within (retain_whole n) es) 8 0 z₁).0, a, w) in
      let row = (read_sound log w.1).row in
      let good : Good S = record { is_built = summary_built n es; in_limits = last_fits (retain_whole n) es w.0 } in
      let l = chars_length t well ∙ fit in
      (λ i. apply_call (w.2 i ++ p) (sym (bytes_chars t well) i) out)
      ∙ apply_encoded S p (chars t) out good (l ∙ sym (summary_base n es row))
      ∙ ap (λ u. writing 0 (bytes u) out) (summary_plays n es row (chars t) l)

-- ---- lists of calls on a fresh session

module _ (n : ℕ) (log : List ℕ) (f : Fresh n log) where
  pub play_session : (cs : List Call) (behind t : List ℕ) → played (log_after log cs ++ behind) t ≡ history_play (after (fresh n) cs) t
  play_session cs behind t = ap (λ l. played (l ++ behind) t) (session_log n log f cs) ∙ play_log (after (fresh n) cs) behind t

  -- the characters that the log's play gives
  plays : (l : List ℕ) (h : History) → l ≡ log_in h → (behind t : List ℕ) → chars (played (l ++ behind) t) ≡ play_all h.edits (chars t)
  unfolding history_play
  plays l h e behind t = ap chars (ap (λ x. played (x ++ behind) t) e ∙ play_log h behind t) ∙ chars_bytes (play_all h.edits (chars t))

  -- `here` is the log after the first calls, `there` the log after more of them
  module _ (before : List Call) (t : List ℕ) (well : T (is_well_formed t)) (fits : number_of_chars t ≡ n) where
    abbrev h : History
    h = after (fresh n) before

    abbrev here : List ℕ
    here = log_after log before

    as_long : length (chars t) ≡ h.start
    as_long = chars_length t well ∙ fits ∙ sym (after_start (fresh n) before)

    small : n ≤ max_size
    small = (fresh_log n log f).1.starts

    -- any characters that the newest revision typed stand in the text that the later log plays, as they were and in order,
    -- unless an accepted edit whose author had seen them deletes one
    pub nothing_lost_played : (later : List Call) (behind behind' : List ℕ) →
        let there = log_after here later in
        let k = length (revisions here) in
        (ms : List Bool) → Within ms (newest n (revisions here)) → Spared k ms h later
        → marked (carry_all false (drop k (revisions there)) ms) (chars (played (there ++ behind) t)) ≡ marked ms (chars (played (here ++ behind') t))
    nothing_lost_played later behind behind' ms new spared =
        let es = h.edits in
        let there = log_after here later in
        let R : revisions here ≡ es = ap revisions (session_log n log f before) ∙ revisions_in h in
        let L : there ≡ log_in (after h later) = ap (λ l. log_after l later) (session_log n log f before) ∙ after_log h (session_sound n log f before) later in
        let Q : revisions there ≡ (after h later).edits = ap revisions L ∙ revisions_in (after h later) in
        let new' : Within ms (newest h.start es) =
        subst₂ (λ (k : ℕ) (vs : List Seq). Within ms (newest k vs)) (sym (after_start (fresh n) before)) R new in
        let spared' : Spared (length es) ms h later = rw R at spared in
        (λ i. marked (carry_all false (drop (length (R i)) (Q i)) ms) (plays there (after h later) L behind t i))
        ∙ nothing_lost n small before later ms new' spared' (chars t) as_long
        ∙ ap (marked ms) (sym (plays here h (session_log n log f before) behind' t))

    -- the text that the later log plays has what an accepted edit or undo types, word for word
    pub typed_stands_played : (c : Call) (later : List Call) (behind : List ℕ) →
        let next = log_after here (c ∷ []) in
        let there = log_after next later in
        let k = length (revisions next) in
        let ms = newest n (revisions next) in
        T (succeeds (run_call here c).answer) → Spared k ms (fed_call h c).history later
        → marked (carry_all false (drop k (revisions there)) ms) (chars (played (there ++ behind) t)) ≡ typed (brings h c.ask)
    typed_stands_played c later behind Goes-through spared =
        let s = session_sound n log f before in
        let g = (fed_call h c).history in
        let next = log_after here (c ∷ []) in
        let there = log_after next later in
        let w = goes_fed h s c (subst (λ (l : List ℕ). T (succeeds (run_call l c).answer)) (session_log n log f before) Goes-through) in
        let N : next ≡ log_in g = ap (λ l. contents (run_call l c).out_a) (session_log n log f before) ∙ left_log h c s in
        let R : revisions next ≡ g.edits = ap revisions N ∙ revisions_in g in
        let L : there ≡ log_in (after g later) = ap (λ l. log_after l later) N ∙ after_log g (fed_sound h c s) later in
        let Q : revisions there ≡ (after g later).edits = ap revisions L ∙ revisions_in (after g later) in
        let start : n ≡ g.start = sym (fed_start h c ∙ after_start (fresh n) before) in
        let spared' : Spared (length g.edits) (newest g.start g.edits) g later =
        subst₂ (λ (k : ℕ) (vs : List Seq). Spared (length vs) (newest k vs) g later) start R spared in
        (λ i. marked (carry_all false (drop (length (R i)) (Q i)) (newest (start i) (R i))) (plays there (after g later) L behind t i))
        ∙ typed_stands n small before c later (rw w.told tt) spared' (chars t) as_long

-- two summaries that are given are equal exactly where the two logs play alike on every text of the starting length
pub summaries_tell_played : (n : ℕ) (log log' : List ℕ) → Fresh n log → Fresh n log' → (cs ds : List Call) (behind behind' s t : List ℕ)
    → Given (log_after log cs) s → Given (log_after log' ds) t
    → (s ≡ t) ↔ ((text : List ℕ) → T (is_well_formed text) → number_of_chars text ≡ n → played (log_after log cs ++ behind) text ≡ played (log_after log' ds ++ behind') text)
summaries_tell_played n log log' f f' cs ds behind behind' s t g g' =
    let (to, from) = demand3.summaries_tell n log log' f f' cs ds s t g g' in
    let here = play_session n log f cs behind in
    let there = play_session n log' f' ds behind' in (
      λ e text w l. here text ∙ to e text w l ∙ sym (there text),
      λ same. from (λ text w l. sym (here text) ∙ same text w l ∙ there text),
    )
