use Rattle.std.specs.Prelude.{◌-◌, length}
use Rattle.json_measure.proofs.Texts.{Sized}
use Rattle.json_measure.proofs.inner.text_bytes.Given as goal

abbrev pub invariant-loop-at : goal.invariant-loop-at
invariant-loop-at l = Sized l.text l.at l.chars l.more

abbrev pub decreases-loop-at : goal.decreases-loop-at
decreases-loop-at l = length l.text - l.at
