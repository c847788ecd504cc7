use Rattle.compose_steps.proofs.Steps.{Cuts, went_second}
use borrow.Author.Rules.{rules}
use Rattle.compose_steps.proofs.inner.only_second.Goals as goal

pub push-f-requires : goal.push-f-requires
push-f-requires c = search (Cuts, rules)

pub rest-h-requires : goal.rest-h-requires
rest-h-requires c = search (Cuts, rules)

pub returns : goal.returns
returns c = search went_second
