use mathlib.Core.Path.{refl}
use Rattle.json_values.proofs.Valued.{minus_none, minus_number}
use Rattle.json_values.proofs.inner.negative.Goals as goal

pub returns-in_err-x : goal.returns-in_err-x
returns-in_err-x c = rw c.from_residual.ensures (minus_none _ _ c.in_err-x.ensures)

pub returns : goal.returns
returns c = minus_number _ _ c.in_ok-x.ensures _ refl refl
