use Rattle.emitter.proofs.Adding.{inserts_from}
use Rattle.emitter.proofs.inner.inserted.Goals as goal

pub returns : goal.returns
returns c = search inserts_from
