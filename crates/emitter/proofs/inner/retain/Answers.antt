use Rattle.emitter.proofs.Adding.{adds_retain}
use Rattle.emitter.proofs.inner.retain.Goals as goal

pub returns : goal.returns
returns c = record { adds = λ n o. search adds_retain }
