use Rattle.std.specs.Prelude.{length}
use Rattle.vectors.proofs.Tally.replay.Given as goal

abbrev pub decreases-loop-call : goal.decreases-loop-call
decreases-loop-call g l = length l.rest
