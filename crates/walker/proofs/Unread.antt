-- Bytes behind a record's own contents aren't read by a step.
use Rattle.std.specs.Prelude.{◌≡◌, ℕ, ◌<◌, Bool, true, false, cond, ltb, List, [], ◌∷◌}
use native.Mathlib.Omega.{arith}
use mathlib.Core.Path.{refl, ◌∙◌}
use mathlib.Core.List.{head-eq_of_cons-eq}
use borrow.Author.Tests.{ltb-true}
use Rattle.answers.specs.Answer.{Answer, success, unless_refused}
use Rattle.record.specs.Layout.{op_count_of, kind_at, count_at}
use Rattle.record.specs.Record.{record_fault, entry_at}
use Rattle.record.proofs.Unread.{Alike}
use Rattle.walker.specs.Walk.{end, step_call}

module _ (r s : List ℕ) (a : Alike r s) where
  pub step_unread : (at : ℕ) → step_call r at ≡ step_call s at
  unfolding step_call
  step_unread at =
      (λ i. unless_refused (a.faults i) (λ n. end) (cond (ltb at (a.op_counts i)) (success (kind_at r at ∷ count_at r at ∷ [])) end)) ∙ go (ltb at (op_count_of s)) refl
    where
      found : Bool → ℕ → ℕ → Answer
      found t k n = unless_refused (record_fault s) (λ n. end) (cond t (success (k ∷ n ∷ [])) end)

      go : (t : Bool) → ltb at (op_count_of s) ≡ t → found t (kind_at r at) (count_at r at) ≡ found t (kind_at s at) (count_at s at)
      go false e = refl
      go true e =
          let h : at < op_count_of s = ltb-true at (op_count_of s) e in
          let p : entry_at r at ≡ entry_at s at = head-eq_of_cons-eq (a.entered at 1 (omega arith)) in
          λ i. found true (p i).kind (p i).count
