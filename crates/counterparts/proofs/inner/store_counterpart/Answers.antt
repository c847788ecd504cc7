use Rattle.counterparts.proofs.Passing.{keeps_part, keeps_none}
use Rattle.counterparts.proofs.inner.store_counterpart.Goals as goal

pub returns-then-to-parts : goal.returns-then-to-parts
returns-then-to-parts c = search keeps_part

pub returns-else-to-parts : goal.returns-else-to-parts
returns-else-to-parts c = search keeps_none
