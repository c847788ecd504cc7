use Rattle.packing.proofs.Packing.{answer_refused}
use Rattle.packing.proofs.inner.answer.Goals as goal

pub returns-in-Err : goal.returns-in-Err
returns-in-Err c = search answer_refused
