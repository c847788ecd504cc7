use Rattle.std.specs.Prelude.{◌≡◌, ◌-◌, length, take}
use Rattle.buffers.specs.InnerOver.{over}
use Rattle.apply_steps.specs.InnerSteps.{played, Stage}
use Rattle.apply_steps.proofs.inner.apply_into.Given as goal

abbrev pub invariant-loop-s : goal.invariant-loop-s
invariant-loop-s l = Stage l.rec l.text l.s × (l.out ≡ over 0 (take l.s.len (played l.rec l.text)) l.initial.out) × (length l.out ≡ length l.initial.out)

abbrev pub decreases-loop-s : goal.decreases-loop-s
decreases-loop-s l = l.n - l.s.k
