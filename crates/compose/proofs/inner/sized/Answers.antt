use Rattle.compose.proofs.Looping.{sized_is}
use Rattle.compose.proofs.inner.sized.Goals as goal

pub returns : goal.returns
returns c = search sized_is
