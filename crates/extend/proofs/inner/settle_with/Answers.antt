use Rattle.extend.proofs.Settling.{settles_with}
use Rattle.extend.proofs.inner.settle_with.Goals as goal

pub returns : goal.returns
returns c = search settles_with
