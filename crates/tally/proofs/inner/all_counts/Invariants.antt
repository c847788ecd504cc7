use Rattle.std.specs.Prelude.{◌≡◌, ◌*◌, ◌≤◌}
use Rattle.entries.specs.InnerTally.{sum_of}
use Rattle.tally.proofs.inner.all_counts.Given as goal

abbrev pub invariant-loop-k : goal.invariant-loop-k
invariant-loop-k l = (l.all ≤ 65536 * l.k) × (l.all ≡ sum_of (λ e. e.count) l.rec l.k)
