use Rattle.std.specs.Prelude.{◌≡◌, ◌*◌, ◌≤◌}
use Rattle.entries.specs.InnerTally.{sum_of}
use Rattle.json_measure.specs.InnerSizes.{entry_frame}
use Rattle.json_measure.proofs.inner.frames.Given as goal

abbrev pub invariant-loop-k : goal.invariant-loop-k
invariant-loop-k l = (l.sum ≡ sum_of entry_frame l.rec l.k) × (l.sum ≤ 6 * l.k)
