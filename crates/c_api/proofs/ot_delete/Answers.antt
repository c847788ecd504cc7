use mathlib.Core.Path.{ap, ◌∙◌}
use Rattle.packing.specs.Numbers.{packed}
use Rattle.c_api.proofs.ot_delete.Goals as goal

pub returns : goal.returns
returns c = let h = c.delete.ensures in (c.answer.ensures ∙ ap packed h.0, h.1)
