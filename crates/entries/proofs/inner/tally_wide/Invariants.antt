use Rattle.entries.specs.InnerTally.{Tallied}
use Rattle.entries.proofs.inner.tally_wide.Given as goal

abbrev pub invariant-loop-k : goal.invariant-loop-k
invariant-loop-k l = Tallied l.rec l.k l.t
