use Rattle.std.specs.Prelude.{◌≤◌}
use Rattle.json_lists.specs.InnerRuns.{over_limit}
use Rattle.json_values.proofs.Numbers.{Counted}
use Rattle.json_values.proofs.inner.number.Given as goal

abbrev pub invariant-loop-i : goal.invariant-loop-i
invariant-loop-i l = Counted l.list l.at l.i l.value × (l.value ≤ over_limit)
