use Rattle.compose_steps.proofs.Steps.{first_retains, second_deletes}
use borrow.Author.Rules.{rules}
use Rattle.compose_steps.proofs.inner.step_both.Goals as goal

pub insert_delete-requires : goal.insert_delete-requires
insert_delete-requires c = search (second_deletes, rules)

pub retained-requires : goal.retained-requires
retained-requires c = search (first_retains, rules)
