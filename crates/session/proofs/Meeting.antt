-- The copies of an edit meet: a session that accepts it against an older revision, and one that accepts it and then the
-- counterparts.
use mathlib.Core.Path.{◌≡◌, sym, ap, ◌∙◌, subst, ap₂}
use mathlib.Core.List.{[], append-nil, List, ◌∷◌, ◌++◌, map, append_assoc}
use lib.ListN.{length, drop, take, length-drop, take-append-drop}
use lib.Dec.{T}
use Prim.Native.Nat.{ℕ, ◌-◌}
use lib.Seq.{drop-length, length-take-le}
use Rattle.buffers.specs.Buffers.{put_at_front}
use Rattle.buffers.proofs.Tests.{both}
use Rattle.characters.specs.Text.{Char}
use Rattle.edits.specs.Sequence.{Seq}
use Rattle.edits.specs.Apply.{apply}
use Rattle.answers.specs.Answer.{succeeds}
use Rattle.answers.specs.Output.{Outs}
use Rattle.record.specs.Record.{encode}
use Rattle.record.proofs.Records.{ops_encode}
use Rattle.session_log.specs.Log.{count_of, revisions, encode_all, records_in}
use Rattle.session_log.proofs.Logs.{count_log, revisions_log, records_all}
use Rattle.session_log.proofs.Rows.{Row, row_left}
use Rattle.session.specs.History.{History, log_in}
use Rattle.session.specs.Demand.{Call, fed_call, ran, after, AllGo, Lent, against_newest, handed_out, run_call, accept_of, rev_of}
use Rattle.session.specs.Rows.{rebase, play_all}
use Rattle.session.proofs.Accepting.{SoundIn, joined, past_row}
use Rattle.session.proofs.Running.{Went, went, fed_sound, left_log, moved_by, call_log}
use Rattle.session.proofs.Rows.{play_all_append, play_all_length}
use Rattle.session.proofs.Moving.{rebase_plays, rebase_length}
use Rattle.session.specs.Keeping.{brings}

pub count_in : (h : History) → count_of (log_in h) ≡ length h.edits
count_in h = ap count_of (sym (append-nil (log_in h))) ∙ count_log h.start h.edits []

pub revisions_in : (h : History) → revisions (log_in h) ≡ h.edits
revisions_in h = ap revisions (sym (append-nil (log_in h))) ∙ revisions_log h.start h.edits []

-- a call that goes through on the log of a history goes through in the history
pub goes_fed : (h : History) → SoundIn h → (c : Call) → T (succeeds (run_call (log_in h) c).answer) → Went h c
goes_fed h s c g = went h c (subst (λ (o : Outs). T (succeeds o.answer)) (call_log h s c) g)

-- ---- against the newest revision an edit joins the row as it is

pub newest : (h : History) (c : Call) (e : Seq) → Went h c → brings h c.ask ≡ e → drop (rev_of c.ask) h.edits ≡ []
    → (fed_call h c).history ≡ joined h e
unfolding rebase
newest h c e w p q = ap (λ t. t.history) w.told ∙ (λ i. joined h (rebase (p i) (q i)).edit)

pub relayed : (h : History) → SoundIn h → (vs : List Seq) (lent : ℕ → Lent)
    → let cs = against_newest (log_in h) (map encode vs) lent in AllGo (ran (log_in h) cs) → after h cs ≡ record { start = h.start; edits = h.edits ++ vs }
relayed h s [] lent g = λ i. record { start = h.start; edits = sym (append-nil h.edits) i }
relayed h s (v ∷ vs) lent g =
    let b = lent (length (map encode vs)) in
    let c = accept_of (encode v) (count_of (log_in h)) b in
    let (g₁, g₂) = (both (succeeds (run_call (log_in h) c).answer) _).0 g in
    let L = left_log h c s in
    let q = newest h c v (goes_fed h s c g₁) (ops_encode v b.behind_edit) (ap (λ k. drop k h.edits) (count_in h) ∙ drop-length h.edits) in
    ap (λ l. after (fed_call h c).history (against_newest l (map encode vs) lent)) L
    ∙ relayed (fed_call h c).history (fed_sound h c s) vs lent (subst (λ (l : List ℕ). AllGo (ran l (against_newest l (map encode vs) lent))) L g₂)
    ∙ (λ i. record { start = (q i).start; edits = (q i).edits ++ vs }) ∙ (λ i. record { start = h.start; edits = append_assoc h.edits (v ∷ []) vs i })

-- ---- an edit and its counterparts

module _ (h : History) (s : SoundIn h) (c : Call) (w : Went h c) where
  pub handed : handed_out (log_in h) c ≡ map encode (moved_by h c).counterparts
  unfolding put_at_front
  handed =
      let m = moved_by h c in
      let n : count_of (log_in h) - rev_of c.ask ≡ length m.counterparts =
      ap (λ j. j - rev_of c.ask) (count_in h) ∙ sym (length-drop (rev_of c.ask) h.edits)
      ∙ sym (rebase_length (brings h c.ask) (drop (rev_of c.ask) h.edits)) in
      ap₂ records_in n (ap (λ o. o.out_b) (call_log h s c) ∙ ap (λ t. put_at_front (encode_all t.counterparts) c.out) w.told)
      ∙ records_all m.counterparts _

  -- another session holds the first edits
  module _ (k : History) (same : k.edits ≡ take (rev_of c.ask) h.edits) where
    pub newest_there : drop (rev_of c.ask) k.edits ≡ []
    newest_there =
        let l : length k.edits ≡ rev_of c.ask = ap length same ∙ length-take-le (rev_of c.ask) h.edits w.join.pass.rev in
        ap (λ n. drop n k.edits) (sym l) ∙ drop-length k.edits

    -- the first session's row and the second's do the same to every text
    pub meet_plays : (t : List Char) → length t ≡ h.start
        → play_all (joined h (moved_by h c).edit).edits t ≡ play_all ((joined k (brings h c.ask)).edits ++ (moved_by h c).counterparts) t
    meet_plays t l =
        let e = brings h c.ask in
        let m = moved_by h c in
        let E = drop (rev_of c.ask) h.edits in
        let F = take (rev_of c.ask) h.edits in
        let f = play_all F t in
        let r : Row h.start F = row_left h.start F E (rw take-append-drop s.row) in
        let p : play_all h.edits t ≡ play_all E f =
        ap (λ es. play_all es t) (sym (take-append-drop (rev_of c.ask) h.edits)) ∙ play_all_append F E t in
        play_all_append h.edits (m.edit ∷ []) t ∙ ap (apply m.edit) p
        ∙ sym (rebase_plays e E f (play_all_length h.start F t r l ∙ sym w.join.pass.meets)
        (past_row h s e (rev_of c.ask) w.join.pass))
        ∙ ap (λ es. play_all m.counterparts (apply e (play_all es t))) (sym same)
        ∙ ap (play_all m.counterparts) (sym (play_all_append k.edits (e ∷ []) t))
        ∙ sym (play_all_append (k.edits ++ (e ∷ [])) m.counterparts t)
