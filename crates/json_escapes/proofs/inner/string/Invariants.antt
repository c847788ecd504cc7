use Rattle.std.specs.Prelude.{◌-◌, length}
use Rattle.json_escapes.proofs.Scanning.{Text}
use Rattle.json_escapes.proofs.inner.string.Given as goal

abbrev pub invariant-loop-x : goal.invariant-loop-x
invariant-loop-x l = Text l.list l.at l.i l.bytes l.chars

abbrev pub decreases-loop-x : goal.decreases-loop-x
decreases-loop-x l = length l.list - l.i
