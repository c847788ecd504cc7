use Rattle.reader.proofs.Fronts.{fault_header, fault_size, fault_small, fault_whole}
use Rattle.reader.proofs.inner.size.Goals as goal

pub op_count-n-requires : goal.op_count-n-requires
op_count-n-requires c = search fault_header

pub text_bytes-requires : goal.text_bytes-requires
text_bytes-requires c = search fault_header

pub returns : goal.returns
returns c = (search fault_size, search fault_small, search fault_whole)
