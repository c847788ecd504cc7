use Rattle.invert_in_place.proofs.Placing.{restores}
use Rattle.invert_in_place.proofs.inner.restore.Goals as goal

pub returns : goal.returns
returns c = search restores
