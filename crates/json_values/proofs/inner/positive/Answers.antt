use mathlib.Core.Path.{refl}
use Rattle.json_values.proofs.Valued.{plus_none, plus_number}
use Rattle.json_values.proofs.inner.positive.Goals as goal

pub returns-in_err-x : goal.returns-in_err-x
returns-in_err-x c = rw c.from_residual.ensures (plus_none _ _ c.requires.1 c.in_err-x.ensures)

pub returns : goal.returns
returns c = plus_number _ _ c.requires.1 c.in_ok-x.ensures _ refl refl
