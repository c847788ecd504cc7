use mathlib.Core.Path.{ap, ◌∙◌}
use Rattle.packing.specs.Numbers.{packed}
use Rattle.c_api.proofs.ot_insert.Goals as goal

pub returns : goal.returns
returns c = let h = c.insert.ensures in (c.answer.ensures ∙ ap packed h.0, h.1)
