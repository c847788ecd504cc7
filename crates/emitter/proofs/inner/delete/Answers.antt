use Rattle.emitter.proofs.Adding.{adds_delete_none, adds_deletes}
use Rattle.emitter.proofs.inner.delete.Goals as goal

pub returns-then-k-eq0 : goal.returns-then-k-eq0
returns-then-k-eq0 c = search adds_delete_none

pub returns : goal.returns
returns c = search adds_deletes
