use Rattle.compose_steps.proofs.Steps.{Cuts, went_second}
use borrow.Author.Rules.{rules}
use Rattle.compose_steps.proofs.inner.insert_second.Goals as goal

pub text_of_second-f-requires : goal.text_of_second-f-requires
text_of_second-f-requires c = search (Cuts, rules)

pub rest-h-requires : goal.rest-h-requires
rest-h-requires c = search (Cuts, rules)

pub returns : goal.returns
returns c = search went_second
