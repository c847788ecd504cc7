use Rattle.json_read.proofs.Opening.{list_none, list_more, values_hold, list_whole}
use borrow.Author.Rules.{rules}
use Rattle.json_read.proofs.inner.read_list.Goals as goal

pub returns-in_err-v : goal.returns-in_err-v
returns-in_err-v c = rw c.from_residual.ensures (list_none _ c.in_err-v.ensures)

pub ends-requires : goal.ends-requires
ends-requires c = c.in_ok-v.ensures.below

pub returns-then-not-ends : goal.returns-then-not-ends
returns-then-not-ends c = list_more _ _ _ _ _ c.in_ok-v.ensures c.ends.ensures c.if-not-ends.true

pub finish-requires : goal.finish-requires
finish-requires c = (search rules, values_hold _ _ _ _ _ c.in_ok-v.ensures)

pub returns : goal.returns
returns c = list_whole _ _ _ _ _ c.in_ok-v.ensures c.ends.ensures c.if-not-ends.false _ c.finish.ensures
