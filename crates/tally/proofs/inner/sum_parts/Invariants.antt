use Rattle.tally.specs.InnerParts.{Parted}
use Rattle.tally.proofs.inner.sum_parts.Given as goal

abbrev pub invariant-loop-k : goal.invariant-loop-k
invariant-loop-k l = Parted l.rec l.k l.p
