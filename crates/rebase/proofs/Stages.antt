-- Both sides of a transform, written to stages by one run.
use Rattle.std.specs.Prelude.{◌≡◌, ℕ, Bool, true, false, not, List, length}
use mathlib.Core.Path.{sym, subst, ◌∙◌}
use borrow.Author.Tests.{not-true, not-false}
use Rattle.characters.specs.Order.{order}
use Rattle.edits.specs.Transform.{transform}
use Rattle.record.specs.Record.{ops}
use Rattle.steps.specs.InnerSteps.{live_is}
use Rattle.steps.specs.declared.inner.Both.{Both}
use Rattle.steps.specs.declared.inner.Counts.{Counts}
use Rattle.steps.specs.InnerBoth.{MarkedBoth, Ends}
use Rattle.steps.proofs.Looping.{GoingBoth}
use Rattle.steps.proofs.Marking.{both_marked}

pub marked_run : (n : ℕ) (a b next₀ side₀ : List ℕ) (s : Both) (next side : List ℕ) → GoingBoth n n a b next₀ side₀ s next side → length next ≡ length next₀ → length side ≡ length side₀
    → (v : Bool) → v ≡ live_is s.x s.y → not v ≡ true → (c : Counts) (next' side' : List ℕ) → Ends n s next side c next' side' → length next' ≡ length next → length side' ≡ length side
    → MarkedBoth n (transform order (ops a) (ops b)) c next' side'
marked_run n a b next₀ side₀ s next side g ln ls v l z c next' side' d ln' ls' =
    subst (λ k. MarkedBoth n (transform order (ops a) (ops b)) k next' side') (sym d.counts)
    (both_marked n a b next₀ side₀ s next side g ln ls v l (not-true v z) d.e d.f next' side' d.left d.right ln' ls')

-- a test that was not refused
pub passed : (v w : Bool) → v ≡ w → not v ≡ false → w ≡ true
passed v w e h = sym e ∙ not-false v h
