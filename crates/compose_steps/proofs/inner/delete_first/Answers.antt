use Rattle.compose_steps.proofs.Steps.{Cuts, went_first}
use borrow.Author.Rules.{rules}
use Rattle.compose_steps.proofs.inner.delete_first.Goals as goal

pub push-f-requires : goal.push-f-requires
push-f-requires c = search (Cuts, rules)

pub rest-g-requires : goal.rest-g-requires
rest-g-requires c = search (Cuts, rules)

pub returns : goal.returns
returns c = search went_first
