use Rattle.steps.proofs.Turning.{live_is_same}
use Rattle.steps.proofs.Going.{going_start, going_under, going_more}
use Rattle.compose.proofs.Looping.{going_done}
use borrow.Author.Rules.{rules}
use Rattle.compose.proofs.inner.compose_into.Goals as goal

pub loop-out-init : goal.loop-out-init
loop-out-init c = (search going_start, search rules)

pub step-s-requires : goal.step-s-requires
step-s-requires c = search (going_under, live_is_same, rules)

pub loop-out-smaller : goal.loop-out-smaller
loop-out-smaller c = c.step-s.ensures.less

pub loop-out-preserved : goal.loop-out-preserved
loop-out-preserved c = (search going_more, search rules)

pub finish-e-requires : goal.finish-e-requires
finish-e-requires c = search (going_under, rules)

pub returns : goal.returns
returns c = search going_done
