use Rattle.places.proofs.Relocating.{settles}
use Rattle.places.proofs.inner.relocate.Goals as goal

pub returns : goal.returns
returns c = search settles
