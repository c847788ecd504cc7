use Rattle.extend.proofs.Growing.{kinds_differ, kinds_same, last_none, last_other, last_count_is}
use borrow.Author.Rules.{rules}
use Rattle.extend.proofs.inner.ending.Goals as goal

pub returns-then-k-eq0 : goal.returns-then-k-eq0
returns-then-k-eq0 c = (search last_none, search rules)

pub returns-then-ne : goal.returns-then-ne
returns-then-ne c = (search (last_other, kinds_differ), search rules)

pub returns : goal.returns
returns c = (search (last_count_is, kinds_same), search rules)
