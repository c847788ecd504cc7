use Rattle.std.specs.Prelude.{◌≡◌, ◌-◌, ◌≤◌}
use Rattle.entries.specs.InnerTally.{sum_from, clash_at}
use Rattle.tally.proofs.inner.clashes.Given as goal

abbrev pub invariant-loop-from : goal.invariant-loop-from
invariant-loop-from l = (1 ≤ l.from) × (l.from - 1 ≤ l.n - 1) × (l.clashes ≤ l.from - 1) × (l.clashes ≡ sum_from (clash_at l.rec) 0 (l.from - 1))

abbrev pub decreases-loop-from : goal.decreases-loop-from
decreases-loop-from l = l.n - l.from
