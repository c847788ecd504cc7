use Rattle.invert.proofs.Inverses.{no_more_played, deleted_is, deleted_few}
use Rattle.invert.proofs.inner.deleted_bytes.Goals as goal

pub overflow_sub-result : goal.overflow_sub-result
overflow_sub-result c = search no_more_played

pub returns : goal.returns
returns c = (search deleted_is, search deleted_few)
