use mathlib.Core.Path.{ap, ◌∙◌}
use Rattle.packing.specs.Numbers.{packed}
use Rattle.c_api.proofs.ot_invert.Goals as goal

pub returns : goal.returns
returns c = let h = c.invert.ensures in (c.answer.ensures ∙ ap packed h.0, h.1)
