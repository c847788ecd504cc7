use Rattle.places.proofs.Relocating.{settles_records}
use Rattle.places.proofs.inner.relocate_ops.Goals as goal

pub returns : goal.returns
returns c = search settles_records
