use Rattle.extend.proofs.Growing.{before_none, before_room, before_some}
use borrow.Author.Rules.{rules}
use Rattle.extend.proofs.inner.before.Goals as goal

pub overflow_sub-result : goal.overflow_sub-result
overflow_sub-result c = search (before_room, rules)

pub returns-then-count-eq0 : goal.returns-then-count-eq0
returns-then-count-eq0 c = search before_none

pub returns-else-count-eq0 : goal.returns-else-count-eq0
returns-else-count-eq0 c = search before_some
