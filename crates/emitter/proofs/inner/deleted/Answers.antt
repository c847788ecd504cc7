use Rattle.emitter.proofs.Adding.{deletes_from}
use Rattle.emitter.proofs.inner.deleted.Goals as goal

pub returns : goal.returns
returns c = search deletes_from
