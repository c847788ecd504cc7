use mathlib.Core.Path.{ap, ◌∙◌}
use Rattle.packing.specs.Numbers.{packed}
use Rattle.c_api.proofs.ot_is_noop.Goals as goal

pub returns : goal.returns
returns c = c.noop.ensures ∙ ap packed c.is_noop.ensures
