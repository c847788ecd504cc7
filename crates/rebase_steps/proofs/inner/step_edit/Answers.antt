use Rattle.steps.proofs.Siding.{whole_cut, left_live}
use Rattle.steps.proofs.Stepping.{first_both}
use borrow.Author.Rules.{rules}
use Rattle.rebase_steps.proofs.inner.step_edit.Goals as goal

pub push_without_text-e-requires : goal.push_without_text-e-requires
push_without_text-e-requires c = search (left_live, whole_cut, rules)

pub rest-g-requires : goal.rest-g-requires
rest-g-requires c = search (whole_cut, rules)

pub returns : goal.returns
returns c = first_both _ _ _ _ _ _ _ _ _ c.requires.stands c.rest-g.ensures c.push_without_text-e.ensures c.gives.ensures.0 c.retain-f.ensures
