use Rattle.std.specs.Prelude.{◌≡◌, ◌-◌, ◌≤◌}
use Rattle.entries.specs.InnerTally.{sum_from, clash_at}
use Rattle.tally.proofs.inner.clashes_in.Given as goal

abbrev pub invariant-loop-k : goal.invariant-loop-k
invariant-loop-k l = (l.k - l.from ≤ l.to - l.from) × (l.clashes ≤ l.k - l.from) × (l.clashes ≡ sum_from (clash_at l.rec) (l.from - 1) (l.k - l.from))
