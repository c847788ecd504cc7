use Rattle.packing.proofs.Packing.{noop_is, noop_refused}
use Rattle.packing.proofs.inner.noop.Goals as goal

pub returns-in-Ok : goal.returns-in-Ok
returns-in-Ok c = search noop_is

pub returns-in-Err : goal.returns-in-Err
returns-in-Err c = search noop_refused
