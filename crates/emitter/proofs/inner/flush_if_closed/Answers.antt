use Rattle.emitter.proofs.Emitting.{spilled_same, spilled_again}
use Rattle.emitter.proofs.inner.flush_if_closed.Goals as goal

pub returns-then-e-gt0 : goal.returns-then-e-gt0
returns-then-e-gt0 c = search spilled_again

pub returns-else-e-gt0 : goal.returns-else-e-gt0
returns-else-e-gt0 c = search spilled_same
