use Rattle.std.specs.Prelude.{length}
use Rattle.harness.proofs.inner.line.Line.read.Given as goal

abbrev pub decreases-loop-c : goal.decreases-loop-c
decreases-loop-c l = length l.rest
