use Rattle.partial.proofs.Holding.{still_start, still_under, still_small, still_holds}
use borrow.Author.Rules.{rules}
use Rattle.partial.proofs.inner.retain_all.Goals as goal

pub retain-f-requires : goal.retain-f-requires
retain-f-requires c = (search rules, search still_start)

pub finish-g-requires : goal.finish-g-requires
finish-g-requires c = (search rules, search still_under)

pub write_header-requires : goal.write_header-requires
write_header-requires c = search still_small

pub size-requires : goal.size-requires
size-requires c = search still_small

pub returns : goal.returns
returns c = search still_holds
