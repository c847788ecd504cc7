use Rattle.tally.proofs.Parting.{part_one}
use Rattle.tally.proofs.inner.add_part.Goals as goal

pub returns : goal.returns
returns c = search part_one
