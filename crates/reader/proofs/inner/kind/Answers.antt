use Rattle.reader.proofs.Fronts.{fault_kind, fault_kinds}
use borrow.Author.Rules.{rules}
use Rattle.reader.proofs.inner.kind.Goals as goal

pub kind-requires : goal.kind-requires
kind-requires c = search (fault_kinds, rules)

pub kind_of-requires : goal.kind_of-requires
kind_of-requires c = search (fault_kind, rules)
