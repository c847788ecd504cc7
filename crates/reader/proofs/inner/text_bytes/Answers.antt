use Rattle.reader.proofs.Fronts.{fault_header}
use Rattle.reader.proofs.inner.text_bytes.Goals as goal

pub text_bytes-requires : goal.text_bytes-requires
text_bytes-requires c = search fault_header
