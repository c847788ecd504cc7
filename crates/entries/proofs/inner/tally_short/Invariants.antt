use Rattle.std.specs.Prelude.{◌≡◌}
use Rattle.entries.specs.InnerTally.{Tallied}
use Rattle.entries.proofs.Tallying.{last_kind}
use Rattle.entries.proofs.inner.tally_short.Given as goal

abbrev pub invariant-loop-k : goal.invariant-loop-k
invariant-loop-k l = Tallied l.rec l.k l.t × (l.last ≡ last_kind l.rec l.k)
