use Rattle.std.specs.Prelude.{◌<◌}
use Rattle.harness.proofs.inner.show.sum.Given as goal

abbrev pub invariant-loop-b : goal.invariant-loop-b
invariant-loop-b l = l.n < 4294967291
