use Rattle.std.specs.Prelude.{◌≡◌, ◌+◌, length}
use Rattle.edits.specs.Compose.{compose_turn, made}
use Rattle.record.specs.InnerFront.{ahead}
use Rattle.steps.proofs.Going.{Going}
use Rattle.compose.proofs.inner.compose_into.Given as goal

abbrev pub invariant-loop-out : goal.invariant-loop-out
invariant-loop-out l = Going compose_turn made l.n l.a l.b l.initial.out l.s l.out × (length l.out ≡ length l.initial.out)

abbrev pub decreases-loop-out : goal.decreases-loop-out
decreases-loop-out l = length (ahead l.a l.s.x) + length (ahead l.b l.s.y)
