use Rattle.record.proofs.Checked.{passed}
use Rattle.walker.proofs.Steps.{refused_end, refused_stays, past_end, past_stays, finds, moves}
use borrow.Author.Rules.{rules}
use Rattle.walker.proofs.move_at.Goals as goal

pub returns-in_default : goal.returns-in_default
returns-in_default c = (search refused_end, search refused_stays)

pub op_count-n-requires : goal.op_count-n-requires
op_count-n-requires c = search passed

pub returns-then-n-at : goal.returns-then-n-at
returns-then-n-at c = (search past_end, search past_stays)

pub kind-kind-requires : goal.kind-kind-requires
kind-kind-requires c = search (passed, rules)

pub count-count-requires : goal.count-count-requires
count-count-requires c = search (passed, rules)

pub returns : goal.returns
returns c = (search finds, search moves)
