use mathlib.Core.Path.{◌∙◌}
use Rattle.packing.proofs.Packing.{step_is}
use Rattle.packing.proofs.inner.step.Goals as goal

pub returns-in-Some : goal.returns-in-Some
returns-in-Some c = c.kind_and_count.ensures ∙ search step_is
