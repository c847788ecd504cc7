use mathlib.Core.Path.{refl}
use Rattle.json_values.proofs.Valued.{quoted_none, quoted_text}
use Rattle.json_values.proofs.inner.quoted.Goals as goal

pub returns-in_err-s : goal.returns-in_err-s
returns-in_err-s c = rw c.from_residual.ensures (quoted_none _ _ c.requires.0 c.requires.1 c.in_err-s.ensures)

pub returns : goal.returns
returns c = quoted_text _ _ c.requires.0 c.requires.1 c.in_ok-s.ensures _ refl refl
