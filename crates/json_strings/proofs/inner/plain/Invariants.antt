use Rattle.std.specs.Prelude.{◌-◌, length}
use Rattle.json_strings.proofs.Spans.{SoFar}
use Rattle.json_strings.proofs.inner.plain.Given as goal

abbrev pub invariant-loop-i : goal.invariant-loop-i
invariant-loop-i l = SoFar l.text l.at l.i l.conts

abbrev pub decreases-loop-i : goal.decreases-loop-i
decreases-loop-i l = length l.text - l.i
