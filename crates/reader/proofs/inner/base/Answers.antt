use Rattle.reader.proofs.Fronts.{fault_header}
use Rattle.reader.proofs.inner.base.Goals as goal

pub base-requires : goal.base-requires
base-requires c = search fault_header
