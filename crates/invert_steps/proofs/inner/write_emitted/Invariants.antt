use Rattle.std.specs.Prelude.{◌≡◌, length}
use Rattle.record.specs.InnerFront.{ahead}
use Rattle.invert_steps.proofs.Undoing.{Going}
use Rattle.invert_steps.proofs.inner.write_emitted.Given as goal

abbrev pub invariant-loop-f : goal.invariant-loop-f
invariant-loop-f l = Going l.count l.rec l.text l.initial.out l.f l.at l.e l.out × (length l.out ≡ length l.initial.out)

abbrev pub decreases-loop-f : goal.decreases-loop-f
decreases-loop-f l = length (ahead l.rec l.f)
