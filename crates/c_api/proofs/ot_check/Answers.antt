use mathlib.Core.Path.{ap, ◌∙◌}
use Rattle.packing.specs.Numbers.{packed}
use Rattle.c_api.proofs.ot_check.Goals as goal

pub returns : goal.returns
returns c = c.answer.ensures ∙ ap packed c.check.ensures
