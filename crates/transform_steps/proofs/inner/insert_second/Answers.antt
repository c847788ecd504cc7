use native.Mathlib.Omega.{arith}
use Rattle.emitter.proofs.Adding.{under_more}
use Rattle.steps.proofs.Siding.{whole_cut, left_live}
use Rattle.steps.proofs.Stepping.{second_both}
use borrow.Author.Rules.{rules}
use Rattle.transform_steps.proofs.inner.insert_second.Goals as goal

pub push_without_text-f-requires : goal.push_without_text-f-requires
push_without_text-f-requires c = (c.requires.slots_few, c.requires.room, c.requires.stands, left_live _ _ c.requires.stands c.requires.live, search rules, whole_cut _ _ c.requires.stands, under_more _ _ _ (omega arith) c.requires.under_f)

pub rest-g-requires : goal.rest-g-requires
rest-g-requires c = search (whole_cut, rules)

pub returns : goal.returns
returns c = second_both _ _ _ _ _ _ _ _ _ c.requires.stands c.rest-g.ensures c.push_without_text-f.ensures c.gives.ensures.0 c.retain-e.ensures
