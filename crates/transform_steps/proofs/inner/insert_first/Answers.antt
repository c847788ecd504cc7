use native.Mathlib.Omega.{arith}
use Rattle.emitter.proofs.Adding.{under_more}
use Rattle.steps.proofs.Siding.{whole_cut, left_live}
use Rattle.steps.proofs.Stepping.{first_both}
use borrow.Author.Rules.{rules}
use Rattle.transform_steps.proofs.inner.insert_first.Goals as goal

pub push_without_text-e-requires : goal.push_without_text-e-requires
push_without_text-e-requires c = (c.requires.slots_few, c.requires.room, c.requires.stands, left_live _ _ c.requires.stands c.requires.live, search rules, whole_cut _ _ c.requires.stands, under_more _ _ _ (omega arith) c.requires.under_e)

pub rest-g-requires : goal.rest-g-requires
rest-g-requires c = search (whole_cut, rules)

pub returns : goal.returns
returns c = first_both _ _ _ _ _ _ _ _ _ c.requires.stands c.rest-g.ensures c.push_without_text-e.ensures c.gives.ensures.0 c.retain-f.ensures
