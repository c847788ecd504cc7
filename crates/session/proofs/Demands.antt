-- Demand 3.
use Prim.Native.Nat.{ℕ}
use mathlib.Core.Path.{◌≡◌, ap, ◌∙◌, subst, sym, subst₂}
use mathlib.Core.List.{List, ◌++◌, [], map}
use lib.Dec.{T}
use lib.ListN.{length, take}
use Rattle.buffers.proofs.Tests.{both}
use Rattle.characters.specs.Form.{is_well_formed}
use Rattle.characters.specs.Chars.{number_of_chars}
use Rattle.characters.specs.Text.{Char, chars, bytes}
use Rattle.characters.proofs.Texts.{chars_bytes, chars_length, bytes_well, bytes_inj}
use Rattle.edits.specs.Sequence.{Seq}
use Rattle.answers.specs.Answer.{succeeds}
use Rattle.record.specs.Record.{encode, ops}
use Rattle.record.proofs.Records.{ops_encode}
use Rattle.session_log.proofs.Rows.{Row}
use Rattle.session.specs.Session.{summary_call}
use Rattle.session.specs.History.{fresh, log_in, History, history_play}
use Rattle.session.specs.Demand.{Fresh, Call, ran, log_after, after, Given, AsExpected, SummariesTell, fed_call, AllGo, Lent, against_newest, CopiesMeet, Demand3, run_call, accept_of, edit_of, rev_of}
use Rattle.session.specs.Rows.{play_all}
use Rattle.session.proofs.Accepting.{SoundIn, joined}
use Rattle.session.proofs.Running.{run_log, after_sound, after_log, fresh_log, summary_log, given, after_start, Went, fed_sound, left_log, moved_by}
use Rattle.session.proofs.Rows.{summary, summary_unique, same_plays}
use Rattle.session.proofs.Meeting.{newest, relayed, newest_there, meet_plays, revisions_in, goes_fed, handed}
use Rattle.session.specs.Keeping.{brings}

-- a session's log is that of its history, which a log can hold
module _ (n : ℕ) (log : List ℕ) (f : Fresh n log) (cs : List Call) where
  pub session_log : log_after log cs ≡ log_in (after (fresh n) cs)
  session_log = let (e, s) = fresh_log n log f in ap (λ l. log_after l cs) e ∙ after_log (fresh n) s cs

  pub session_sound : SoundIn (after (fresh n) cs)
  session_sound = after_sound (fresh n) (fresh_log n log f).1 cs

  session_given : (s : List ℕ) → Given (log_after log cs) s → Given (log_in (after (fresh n) cs)) s
  session_given s g = subst (λ (l : List ℕ). Given l s) session_log g

  as_expected : AsExpected n log cs
  as_expected =
      let (e, s) = fresh_log n log f in
      record {
        calls = ap (λ l. ran l cs) e ∙ run_log (fresh n) s cs;
        summaries = λ behind out. ap (λ l. summary_call (l ++ behind) out) session_log ∙ summary_log (after (fresh n) cs) session_sound behind out;
      }

-- ---- summaries tell histories apart

encode_inj : (s t : Seq) → encode s ≡ encode t → s ≡ t
encode_inj s t e = sym (ops_encode s []) ∙ ap (λ l. ops (l ++ [])) e ∙ ops_encode t []

-- a fact on texts as bytes, of texts as characters
texts_same : (n : ℕ) (es vs : List Seq)
    → ((t : List ℕ) → T (is_well_formed t) → number_of_chars t ≡ n → bytes (play_all es (chars t)) ≡ bytes (play_all vs (chars t)))
    → (t : List Char) → length t ≡ n → play_all es t ≡ play_all vs t
texts_same n es vs h t l =
    bytes_inj _ _
    (ap (λ u. bytes (play_all es u)) (sym (chars_bytes t))
    ∙ h (bytes t) (bytes_well t) (sym (chars_length (bytes t) (bytes_well t)) ∙ ap length (chars_bytes t) ∙ l)
    ∙ ap (λ u. bytes (play_all vs u)) (chars_bytes t))

-- histories that do the same to every text have one summary, where both are given
same_summary : (h k : History) → SoundIn h → SoundIn k → k.start ≡ h.start
    → ((t : List Char) → length t ≡ h.start → play_all h.edits t ≡ play_all k.edits t)
    → (s t : List ℕ) → Given (log_in h) s → Given (log_in k) t → s ≡ t
same_summary h k sh sk e same s t g g' =
    given h sh s g ∙ ap encode (summary_unique h.start h.edits k.edits sh.row (rw e at sk.row) same)
    ∙ ap (λ n. encode (summary n k.edits)) (sym e) ∙ sym (given k sk t g')

summaries_tell : (n : ℕ) (log log' : List ℕ) → Fresh n log → Fresh n log' → (cs ds : List Call) → SummariesTell n log log' cs ds
unfolding history_play
summaries_tell n log log' f f' cs ds s t g g' =
    let h = after (fresh n) cs in
    let k = after (fresh n) ds in
    let sh = session_sound n log f cs in
    let sk = session_sound n log' f' ds in
    let p : h.start ≡ n = after_start (fresh n) cs in
    let q : k.start ≡ n = after_start (fresh n) ds in
    let w : Row n h.edits = rw p at sh.row in
    let x : Row n k.edits = rw q at sk.row in
    let a = session_given n log f cs s g in
    let b = session_given n log' f' ds t g' in (
      λ e text u l.
          let j : encode (summary n h.edits) ≡ encode (summary n k.edits) =
          ap (λ m. encode (summary m h.edits)) (sym p) ∙ sym (given h sh s a) ∙ e ∙ given k sk t b ∙ ap (λ m. encode (summary m k.edits)) q in
          ap bytes (same_plays n h.edits k.edits w x (encode_inj _ _ j) (chars text) (chars_length text u ∙ l)),
      λ same. same_summary h k sh sk (q ∙ sym p) (λ u l. texts_same n h.edits k.edits same u (l ∙ p)) s t a b,
    )

-- ---- the copies meet

-- the edit, or the inverse, in the other session
abbrev again : History → Call → Lent → Call
again h c mine = accept_of (edit_of (log_in h) c.ask) (rev_of c.ask) mine

module _ (h k : History) (sh : SoundIn h) (sk : SoundIn k) (starts : k.start ≡ h.start) (c : Call) (mine : Lent) (lent : ℕ → Lent)
    (same : k.edits ≡ take (rev_of c.ask) h.edits) (w : Went h c) (w' : Went k (again h c mine)) where
  -- the second session's history after the edit
  abbrev k₁ : History
  k₁ = (fed_call k (again h c mine)).history

  s₁ : SoundIn k₁
  s₁ = fed_sound k (again h c mine) sk

  edited : k₁ ≡ joined k (brings h c.ask)
  edited = newest k (again h c mine) (brings h c.ask) w' (w.join.reads sh mine.behind_edit) (newest_there h sh c w k same)

  -- and after the counterparts
  abbrev relay : List Call
  relay = against_newest (log_in k₁) (map encode (moved_by h c).counterparts) lent

  there : AllGo (ran (log_in k₁) relay)
      → after k₁ relay ≡ record { start = k.start; edits = (joined k (brings h c.ask)).edits ++ (moved_by h c).counterparts }
  there g = relayed k₁ s₁ (moved_by h c).counterparts lent g ∙ (λ i. record { start = (edited i).start; edits = (edited i).edits ++ (moved_by h c).counterparts })

  here : (fed_call h c).history ≡ joined h (moved_by h c).edit
  here = ap (λ u. u.history) w.told

  meet : AllGo (ran (log_in k₁) relay) → (s t : List ℕ) → Given (log_in (fed_call h c).history) s → Given (log_after (log_in k₁) relay) t → s ≡ t
  meet g s t gs gt =
      same_summary (fed_call h c).history (after k₁ relay) (fed_sound h c sh) (after_sound k₁ s₁ relay)
      (ap (λ u. u.start) (there g) ∙ starts ∙ sym (ap (λ u. u.start) here))
      (λ u l.
      ap (λ v. play_all v.edits u) here ∙ meet_plays h sh c w k same u (l ∙ ap (λ v. v.start) here) ∙ sym (ap (λ v. play_all v.edits u) (there g)))
      s t gs (subst (λ (l : List ℕ). Given l t) (after_log k₁ s₁ relay) gt)

copies_meet : (h k : History) → SoundIn h → SoundIn k → k.start ≡ h.start → CopiesMeet (log_in h) (log_in k)
copies_meet h k sh sk starts c mine lent same₀ goesA goesB s t gs gt =
    let same : k.edits ≡ take (rev_of c.ask) h.edits = sym (revisions_in k) ∙ same₀ ∙ ap (take (rev_of c.ask)) (revisions_in h) in
    let w = goes_fed h sh c ((both (succeeds (run_call (log_in h) c).answer) _).0 goesA).0 in
    let (b₁, b₂) = (both (succeeds (run_call (log_in k) (again h c mine)).answer) _).0 goesB in
    let w' = goes_fed k sk (again h c mine) b₁ in
    let L = left_log k (again h c mine) sk in
    let H = handed h sh c w in
    meet h k sh sk starts c mine lent same w w'
    (subst₂ (λ (l : List ℕ) (rs : List (List ℕ)). AllGo (ran l (against_newest l rs lent))) L H b₂) s t
    (subst (λ (l : List ℕ). Given l s) (left_log h c sh) gs)
    (subst₂ (λ (l : List ℕ) (rs : List (List ℕ)). Given (log_after l (against_newest l rs lent)) t) L H gt)

pub demand3 : Demand3
demand3 = record {
  as_expected = as_expected;
  summaries_tell = summaries_tell;
  copies_meet = λ n log log' f f' cs ds.
      subst₂ CopiesMeet (sym (session_log n log f cs)) (sym (session_log n log' f' ds))
      (copies_meet (after (fresh n) cs) (after (fresh n) ds) (session_sound n log f cs) (session_sound n log' f' ds)
      (after_start (fresh n) ds ∙ sym (after_start (fresh n) cs)));
}
