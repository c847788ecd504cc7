use Rattle.std.specs.Prelude.{◌≡◌, ◌+◌, length}
use Rattle.record.specs.InnerFront.{ahead}
use Rattle.steps.proofs.Looping.{GoingBoth}
use Rattle.transform.proofs.inner.transform_into.Given as goal

abbrev pub invariant-loop-stage_a : goal.invariant-loop-stage_a
invariant-loop-stage_a l = GoingBoth l.slots l.slots l.a l.b l.initial.stage_a l.initial.stage_b l.s l.stage_a l.stage_b × (length l.stage_a ≡ length l.initial.stage_a) × (length l.stage_b ≡ length l.initial.stage_b)

abbrev pub decreases-loop-stage_a : goal.decreases-loop-stage_a
decreases-loop-stage_a l = length (ahead l.a l.s.x) + length (ahead l.b l.s.y)
