use Rattle.apply_steps.proofs.Passing.{ends_text}
use Rattle.apply_steps.proofs.inner.end_of.Goals as goal

pub returns-then-left-eq1 : goal.returns-then-left-eq1
returns-then-left-eq1 c = search ends_text
