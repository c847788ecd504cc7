use Rattle.emitter.proofs.Delivering.{finishes}
use Rattle.emitter.proofs.inner.finish.Goals as goal

pub returns : goal.returns
returns c = search finishes
