use Rattle.emitter.proofs.Emitting.{opens_same, opens_again, opens_few, opens_less}
use Rattle.emitter.proofs.inner.reopened.Goals as goal

pub returns-then-e-eq0 : goal.returns-then-e-eq0
returns-then-e-eq0 c = (search opens_same, search opens_few)

pub returns : goal.returns
returns c = (search opens_again, search opens_less)
