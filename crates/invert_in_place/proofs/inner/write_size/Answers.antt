use Rattle.invert_in_place.proofs.Placing.{size_written}
use Rattle.invert_in_place.proofs.inner.write_size.Goals as goal

pub returns : goal.returns
returns c = search size_written
