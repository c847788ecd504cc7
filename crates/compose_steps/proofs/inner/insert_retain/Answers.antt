use native.Mathlib.Omega.{arith}
use Rattle.emitter.proofs.Adding.{under_more}
use Rattle.compose_steps.proofs.Steps.{Cuts, both_some, went_inserted}
use borrow.Author.Rules.{rules}
use Rattle.compose_steps.proofs.inner.insert_retain.Goals as goal

pub text_of_first-f-requires : goal.text_of_first-f-requires
text_of_first-f-requires c = let k = c.lesser-k.ensures in
    (c.requires.1.slots_few, c.requires.1.stands_x, c.requires.3, both_some _ _ _ _ _ c.requires.2 c.requires.1.stands_x c.requires.1.stands_y k, omega (arith, k), c.cut-mid.ensures, under_more _ _ _ (omega arith) c.requires.1.under)

pub rest-g-requires : goal.rest-g-requires
rest-g-requires c = search (Cuts, rules)

pub rest-h-requires : goal.rest-h-requires
rest-h-requires c = search (Cuts, c.requires.0, c.requires.1, rules)

pub returns : goal.returns
returns c = went_inserted _ _ _ c.args.s _ _ _ c.requires.1.stands_x c.requires.1.stands_y _ _ c.requires.2 _ c.lesser-k.ensures c.requires.3 c.requires.4 c.text_of_first-f.ensures c.rest-g.ensures c.rest-h.ensures
