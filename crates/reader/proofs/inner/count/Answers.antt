use Rattle.reader.proofs.Fronts.{fault_kinds}
use borrow.Author.Rules.{rules}
use Rattle.reader.proofs.inner.count.Goals as goal

pub count-requires : goal.count-requires
count-requires c = search (fault_kinds, rules)
