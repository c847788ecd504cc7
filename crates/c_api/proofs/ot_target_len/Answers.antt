use mathlib.Core.Path.{ap, ◌∙◌}
use Rattle.packing.specs.Numbers.{packed}
use Rattle.c_api.proofs.ot_target_len.Goals as goal

pub returns : goal.returns
returns c = c.answer.ensures ∙ ap packed c.target_len.ensures
