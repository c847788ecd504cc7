-- Lists of calls on the log of a history, and its summary: they are what the history gives.
use mathlib.Core.Path.{◌≡◌, refl, ap, ◌∙◌, ap₂, sym}
use mathlib.Core.Bool.{Bool, true, false}
use Prim.Native.Nat.{ℕ, zero, suc, ◌≤◌}
use mathlib.Core.List.{◌++◌, List, [], ◌∷◌}
use lib.Dec.{T, leb, leb→le}
use lib.ListN.{length, drop, take}
use native.Mathlib.Omega.{arith}
use Rattle.buffers.specs.Buffers.{put_at_front}
use Rattle.buffers.specs.Words.{words}
use Rattle.buffers.proofs.Tests.{holds}
use Rattle.answers.specs.Answer.{succeeds, unless_refused, needs, or_else, success, refused}
use Rattle.answers.specs.Output.{Out, writing}
use Rattle.answers.proofs.Refusals.{needs_out, first_zero}
use Rattle.answers.proofs.Outputs.{wrote, at_front_take}
use Rattle.record.specs.Record.{ops, encode}
use Rattle.record.proofs.Records.{ops_good, ops_encode}
use Rattle.session_log.specs.Log.{contents, encode_all, log_of, readable}
use Rattle.session_log.specs.Open.{open_call}
use Rattle.session_log.proofs.Logs.{contents_log, start_log, revisions_log, readable_log}
use Rattle.session.specs.History.{History, log_in, Outcome, fresh, Summed, history_summary}
use Rattle.session.specs.Demand.{Call, fed_call, accept, ran, expected, after, log_after, expected_summary, Fresh, Given, Ask, undo, ask_call, run_call, history_ask, expected_call, edit_of, rev_of}
use Rattle.session.specs.Rows.{retain_whole, compose_all, composes_within, Moved, rebase}
use Rattle.session.specs.Session.{summary_fault, summary_call, inverse_in}
use Rattle.session.proofs.Accepting.{through, Passed, SoundIn, joined, fault, back, history_told, passed, joined_sound, accept_log, rest_zero, show}
use Rattle.session.proofs.Rows.{partials_final, partials_fit, summary}
use Rattle.record.specs.Layout.{max_size}
use Rattle.record.proofs.Sequences.{Good}
use Rattle.record.proofs.Faults.{limits, faultless}
use Rattle.session.specs.Keeping.{brings}
use Rattle.session.proofs.Undoing.{Undoes, early, undone, undoes, undoes_early, inverse_base, inverse_good, inverse_in_is, undo_told, undo_log}
use Rattle.record.proofs.Unread.{behind_alike, same_seq}

-- ---- one call

-- the edit of a call, moved past the edits after its revision
abbrev pub moved_for : History → Ask → Moved
moved_for h q = rebase (brings h q) (drop (rev_of q) h.edits)

abbrev pub moved_by : History → Call → Moved
moved_by h c = moved_for h c.ask

-- what is known of an edit that joins the row
pub record Joins (h : History) (q : Ask) : Type 0 where
  pub good : Good (brings h q)
  pub pass : Passed h (brings h q) (rev_of q)
  -- the record of it, with any bytes behind
  pub reads : SoundIn h → (more : List ℕ) → ops (edit_of (log_in h) q ++ more) ≡ brings h q

abbrev faults : History → Ask → ℕ → ℕ → ℕ
faults h (accept edit r) room space = fault h edit r room space
faults h (undo k text a b) room space = undoes h k text a b room space

told_settles : (h : History) (q : Ask) (room space : ℕ)
    → history_ask h q room space ≡ unless_refused (faults h q room space) (back h) (through h (moved_for h q))
told_settles h (accept edit r) room space = history_told h edit r room space
told_settles h (undo k text a b) room space = undo_told h k text a b room space

joins : (h : History) (q : Ask) (room space : ℕ) → faults h q room space ≡ 0 → Joins h q
joins h (accept edit r) room space z =
    let (a, p) = passed h edit r room space z in
    record {
      good = ops_good edit a;
      pass = p;
      reads = λ s more. same_seq (behind_alike edit more ((limits edit).0 ((faultless edit).0 a).in_limits).whole);
    }
joins h (undo k text a b) room space z =
    let (x, y) = first_zero (early h k text a b) _ z in
    let u = undoes_early h k text a b x in
    let (c, d) = rest_zero h (undone h k text) room space y in
    record {
      good = inverse_good h text k u.limits;
      pass = record { rev = u.rev; meets = inverse_base h text k u.one u.rev; counts = c; kept = d };
      reads = λ s more. ops_encode (inverse_in (log_in h) k text) more ∙ inverse_in_is h k text s u.one;
    }

ask_log : (h : History) → SoundIn h → (q : Ask) (behind out : List ℕ)
    → let log = log_in h ++ behind in ask_call q log out ≡ show h behind out (history_ask h q (length log) (length out))
ask_log h s (accept edit r) behind out = accept_log h behind out s edit r
ask_log h s (undo k text a b) behind out = undo_log h s behind text k a b out

pub call_log : (h : History) → SoundIn h → (c : Call) → run_call (log_in h) c ≡ expected_call h c
call_log h s c = ask_log h s c.ask c.behind c.out

-- a call that goes through
pub record Went (h : History) (c : Call) : Type 0 where
  pub join : Joins h c.ask
  pub told : fed_call h c ≡ through h (moved_by h c)

module _ (h : History) (c : Call) where
  abbrev refusal : ℕ
  refusal = faults h c.ask (length (log_in h ++ c.behind)) (length c.out)

  abbrev done : Outcome
  done = through h (moved_by h c)

  fed_settles : fed_call h c ≡ unless_refused refusal (back h) done
  fed_settles = told_settles h c.ask (length (log_in h ++ c.behind)) (length c.out)

  no_fault : refusal ≡ 0 → Went h c
  no_fault z = record { join = joins h c.ask _ _ z; told = fed_settles ∙ ap (λ f. unless_refused f (back h) done) z }

  pub went : T (succeeds (fed_call h c).answer) → Went h c
  went g = go refusal refl (rw fed_settles at g)
    where
      go : (f : ℕ) → refusal ≡ f → T (succeeds (unless_refused f (back h) done).answer) → Went h c
      go zero z t = no_fault z
      go (suc n) z t = absurd t

  -- what holds of the history, and where the call goes through of the one with what came out, holds afterwards
  pub fed_rule : (P : History → Type 0) → P h → (Went h c → P (joined h (moved_by h c).edit)) → P (fed_call h c).history
  fed_rule P a b = rw fed_settles (go refusal refl)
    where
      go : (f : ℕ) → refusal ≡ f → P (unless_refused f (back h) done).history
      go zero z = b (no_fault z)
      go (suc n) z = a

  pub fed_sound : SoundIn h → SoundIn (fed_call h c).history
  fed_sound s = fed_rule SoundIn s (λ w. joined_sound h s (brings h c.ask) (rev_of c.ask) w.join.pass w.join.good)

  pub fed_start : (fed_call h c).history.start ≡ h.start
  fed_start = fed_rule (λ g. g.start ≡ h.start) refl (λ w. refl)

  pub left_log : SoundIn h → contents (run_call (log_in h) c).out_a ≡ log_in (fed_call h c).history
  unfolding put_at_front
  left_log s = ap (λ o. contents o.out_a) (call_log h s c) ∙ contents_log (fed_call h c).history.start (fed_call h c).history.edits _

-- an undo that goes through passes its own tests
pub went_undo : (h : History) (k : ℕ) (text : List ℕ) (a b : ℕ) (behind out : List ℕ)
    → T (succeeds (fed_call h (record { ask = undo k text a b; behind = behind; out = out })).answer) → Undoes h k text
went_undo h k text a b behind out g =
    let room = length (log_in h ++ behind) in
    go (undoes h k text a b room (length out)) refl (rw (undo_told h k text a b room (length out)) at g)
  where
    go : (f : ℕ) → undoes h k text a b (length (log_in h ++ behind)) (length out) ≡ f
        → T (succeeds (unless_refused f (back h) (through h (undone h k text))).answer) → Undoes h k text
    go zero z t = undoes_early h k text a b (first_zero (early h k text a b) _ z).0
    go (suc n) z t = absurd t

-- ---- lists of calls

pub run_log : (h : History) → SoundIn h → (cs : List Call) → ran (log_in h) cs ≡ expected h cs
run_log h s [] = refl
run_log h s (c ∷ cs) =
    ap₂ ◌∷◌ (call_log h s c) (ap (λ l. ran l cs) (left_log h c s) ∙ run_log (fed_call h c).history (fed_sound h c s) cs)

pub after_sound : (h : History) → SoundIn h → (cs : List Call) → SoundIn (after h cs)
after_sound h s [] = s
after_sound h s (c ∷ cs) = after_sound (fed_call h c).history (fed_sound h c s) cs

pub after_start : (h : History) (cs : List Call) → (after h cs).start ≡ h.start
after_start h [] = refl
after_start h (c ∷ cs) = after_start (fed_call h c).history cs ∙ fed_start h c

pub after_log : (h : History) → SoundIn h → (cs : List Call) → log_after (log_in h) cs ≡ log_in (after h cs)
after_log h s [] = refl
after_log h s (c ∷ cs) = ap (λ l. log_after l cs) (left_log h c s) ∙ after_log (fed_call h c).history (fed_sound h c s) cs

-- ---- opening

pub fresh_sound : (n : ℕ) → n ≤ max_size → SoundIn (fresh n)
fresh_sound n l = record { starts = l; counts = omega arith; good = tt; row = tt }

pub fresh_log : (n : ℕ) (log : List ℕ) → Fresh n log → (log ≡ log_in (fresh n)) × SoundIn (fresh n)
unfolding open_call put_at_front log_of encode_all
fresh_log n log f =
    let w = wrote (needs (leb n max_size) 9 0) (words (0 ∷ n ∷ [])) f.buffer (rw f.opens tt) in (
      sym f.leaves ∙ ap (λ o. contents o.out) w.is ∙ contents_log n [] (drop 4 f.buffer),
      fresh_sound n (leb→le n max_size (needs_out (leb n max_size) 8 0 w.no_fault).0),
    )

-- ---- summaries

abbrev too_large : History → ℕ
too_large h = needs (composes_within (retain_whole h.start) h.edits) 9 0

summary_told : (h : History) (out : List ℕ) → expected_summary h out ≡ writing (too_large h) (encode (summary h.start h.edits)) out
unfolding history_summary summary writing put_at_front
summary_told h out =
    let s = retain_whole h.start in
    (λ i. front (fed (partials_fit s h.edits i) (encode (partials_final s s h.edits i))))
    ∙ same (composes_within s h.edits) (leb (length (encode (compose_all s h.edits))) (length out)) (encode (compose_all s h.edits))
  where
    fed : Bool → List ℕ → Summed
    fed t r = unless_refused (needs t 9 (needs (leb (length r) (length out)) 10 0)) (λ n. record { answer = refused n; summary = [] }) (record { answer = success (length r ∷ []); summary = r })

    front : Summed → Out
    front x = record { answer = x.answer; out = put_at_front x.summary out }

    same : (t u : Bool) (r : List ℕ)
        → front (unless_refused (needs t 9 (needs u 10 0)) (λ n. record { answer = refused n; summary = [] }) (record { answer = success (length r ∷ []); summary = r }))
        ≡ unless_refused (or_else (needs t 9 0) (needs u 10 0)) (λ n. record { answer = refused n; out = out }) (record { answer = success (length r ∷ []); out = put_at_front r out })
    same true true r = refl
    same true false r = refl
    same false u r = refl

pub summary_log : (h : History) → SoundIn h → (behind out : List ℕ) → summary_call (log_in h ++ behind) out ≡ expected_summary h out
unfolding summary_call summary_fault summary
summary_log h s behind out =
    let n = start_log h.start h.edits behind in
    let es = revisions_log h.start h.edits behind in
    (λ i. writing (needs (holds (readable (log_in h ++ behind)) (readable_log h.start h.edits behind s) i) 6 (needs (composes_within (retain_whole (n i)) (es i)) 9 0))
    (encode (summary (n i) (es i))) out)
    ∙ sym (summary_told h out)

pub given : (h : History) → SoundIn h → (s : List ℕ) → Given (log_in h) s → s ≡ encode (summary h.start h.edits)
given h sound s g =
    let S = encode (summary h.start h.edits) in
    let e = summary_log h sound g.behind g.out ∙ summary_told h g.out in
    let a : (writing (too_large h) S g.out).answer ≡ success (length s ∷ []) = ap (λ o. o.answer) (sym e) ∙ g.answers in
    let w = wrote (too_large h) S g.out (rw a tt) in
    let b : success (length S ∷ []) ≡ success (length s ∷ []) = ap (λ o. o.answer) (sym w.is) ∙ a in
    let l : length s ≡ length S = cc b in
    sym g.writes ∙ ap₂ take l (ap (λ o. o.out) (e ∙ w.is)) ∙ at_front_take S g.out
