use Rattle.steps.proofs.Marking.{both_sized}
use Rattle.steps.proofs.inner.sizes.Goals as goal

pub returns : goal.returns
returns c = search both_sized
