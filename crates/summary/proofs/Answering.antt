-- The answers of the call.
use Rattle.std.specs.Prelude.{◌≡◌, ℕ, ◌≤◌, true, false, T, List, length, take, Result, Option, Ok, Err, Some, None}
use mathlib.Core.Path.{refl, sym, ap}
use native.Mathlib.Omega.{arith}
use lib.Seq.{length-take-le}
use Rattle.buffers.proofs.Tests.{holds}
use Rattle.answers.specs.declared.Refusal.{Refusal}
use Rattle.answers.specs.Answer.{refused}
use Rattle.answers.specs.Output.{writing}
use Rattle.answers.specs.InnerGiven.{Gives}
use Rattle.record.specs.Layout.{max_size}
use Rattle.record.specs.Record.{encode}
use Rattle.emitter.proofs.Delivering.{writing_refused}
use Rattle.session_log.specs.Log.{start_of, revisions, count_of, readable}
use Rattle.session_log.specs.InnerScan.{Found, Scans}
use Rattle.session_log.specs.declared.inner.Scan.{Scan}
use Rattle.session.specs.Rows.{retain_whole, compose_all, composes_within}
use Rattle.session.specs.Session.{summary_fault, summary_call}
use Rattle.partial.specs.InnerSumming.{Sums}

-- the record of what the revisions do together
abbrev together : List ℕ → List ℕ
together l = encode (compose_all (retain_whole (start_of l)) (revisions l))

-- ---- the answers

module _ (l o : List ℕ) (r : T (readable l)) where
  -- a summary within the limits is written
  pub summed_is : composes_within (retain_whole (start_of l)) (revisions l) ≡ true → summary_call l o ≡ writing 0 (together l) o
  unfolding summary_call summary_fault
  summed_is i = rw (holds (readable l) r, i)

  module _ (v : Result ℕ Refusal) (b : List ℕ) (s : Sums l v b) where
    pub summed_refused : (x : Refusal) → v ≡ Err x → Gives (summary_call l o) (Err x) o
    unfolding summary_call summary_fault
    summed_refused x q =
        let (i, j) = (rw q at s).sums in
        rw (holds (readable l) r, j) (rw (writing_refused 9 (together l) o (λ z. absurd (omega arith))) (record { answer = ap refused i; out = refl }))

    -- what a summary in the buffer is: as long as the result says, and what the call writes
    module _ (k : ℕ) (q : v ≡ Ok k) where
      pub summed_room : k ≤ length b
      summed_room = (rw q at s).sums.1.room

      pub summed_size : k ≡ length (take k b)
      summed_size = sym (length-take-le k b summed_room)

      pub summed_whole : (w : Result ℕ Refusal) (o' : List ℕ) → Gives (writing 0 (take k b) o) w o' → Gives (summary_call l o) w o'
      summed_whole w o' g =
          let (i, j) = (rw q at s).sums in
          rw (summed_is i) (rw j.is at g)

module _ (l o : List ℕ) (x : Option Scan) (s : Scans l 0 x) where
  module _ (q : x ≡ None) where
    unread : summary_call l o ≡ record { answer = refused 6; out = o }
    unfolding summary_call summary_fault
    unread =
        let z : readable l ≡ false = (rw q at s).scans in
        rw z (writing_refused 6 (together l) o (λ z. absurd (omega arith)))

    pub summary_6 : refused 6 ≡ (summary_call l o).answer
    summary_6 = ap (λ y. y.answer) (sym unread)

    pub summary_same : o ≡ (summary_call l o).out
    summary_same = ap (λ y. y.out) (sym unread)

  module _ (f : Scan) (q : x ≡ Some f) where
    found : Found l 0 f
    found = (rw q at s).scans

    pub found_reads : T (readable l)
    found_reads = found.reads

    pub found_count : f.count ≡ count_of l
    found_count = found.count

    pub found_start : f.start ≡ start_of l
    found_start = found.start

    pub found_small : f.start ≤ max_size
    found_small = found.small
