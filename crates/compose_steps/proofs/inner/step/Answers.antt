use Rattle.compose_steps.proofs.Steps.{Choose}
use borrow.Author.Rules.{rules}
use Rattle.compose_steps.proofs.inner.step.Goals as goal

pub delete_first-requires : goal.delete_first-requires
delete_first-requires c = search (Choose, rules)

pub insert_second-requires : goal.insert_second-requires
insert_second-requires c = search (Choose, rules)

pub only_second-requires : goal.only_second-requires
only_second-requires c = search (Choose, rules)

pub only_first-requires : goal.only_first-requires
only_first-requires c = search (Choose, rules)

pub step_both-requires : goal.step_both-requires
step_both-requires c = search (Choose, rules)
