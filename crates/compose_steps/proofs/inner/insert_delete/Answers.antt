use Rattle.compose_steps.proofs.Steps.{Cuts, went_dropped}
use borrow.Author.Rules.{rules}
use Rattle.compose_steps.proofs.inner.insert_delete.Goals as goal

pub rest-g-requires : goal.rest-g-requires
rest-g-requires c = search (Cuts, rules)

pub rest-h-requires : goal.rest-h-requires
rest-h-requires c = search (Cuts, rules)

pub returns : goal.returns
returns c = search went_dropped
