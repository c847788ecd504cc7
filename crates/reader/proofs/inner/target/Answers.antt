use Rattle.reader.proofs.Fronts.{fault_header}
use Rattle.reader.proofs.inner.target.Goals as goal

pub target-requires : goal.target-requires
target-requires c = search fault_header
