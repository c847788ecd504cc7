use Rattle.reader.proofs.Fronts.{fault_header, fault_few}
use borrow.Author.Rules.{rules}
use Rattle.reader.proofs.inner.op_count.Goals as goal

pub op_count-requires : goal.op_count-requires
op_count-requires c = search fault_header

pub returns : goal.returns
returns c = (search rules, search fault_few)
