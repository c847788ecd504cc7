use Rattle.steps.proofs.Siding.{first_live, together_as}
use Rattle.steps.proofs.Stepping.{second_live, turned_first, turned_second, turned_together}
use borrow.Author.Rules.{rules}
use Rattle.rebase_steps.proofs.inner.step.Goals as goal

pub step_edit-requires : goal.step_edit-requires
step_edit-requires c = search (first_live, rules)

pub step_revision-requires : goal.step_revision-requires
step_revision-requires c = search (second_live, rules)

pub step_both-requires : goal.step_both-requires
step_both-requires c = search (together_as, rules)

pub returns-in-First : goal.returns-in-First
returns-in-First c = turned_first _ _ _ _ _ _ _ _ c.whose.ensures c.requires.1.stands_x c.requires.1.stands_y _ c.in-First.is _ c.step_edit.ensures

pub returns-in-Second : goal.returns-in-Second
returns-in-Second c = turned_second _ _ _ _ _ _ _ _ c.whose.ensures c.requires.1.stands_x c.requires.1.stands_y _ c.in-Second.is _ c.step_revision.ensures

pub returns-in-Together : goal.returns-in-Together
returns-in-Together c = turned_together _ _ _ _ _ _ _ _ c.whose.ensures c.requires.1.stands_x c.requires.1.stands_y _ c.in-Together.is _ _ c.step_both.ensures
