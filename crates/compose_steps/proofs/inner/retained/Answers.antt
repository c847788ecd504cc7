use native.Mathlib.Omega.{arith}
use Rattle.emitter.proofs.Adding.{under_more}
use Rattle.compose_steps.proofs.Steps.{Cuts, both_some, second_cut, went_retained}
use borrow.Author.Rules.{rules}
use Rattle.compose_steps.proofs.inner.retained.Goals as goal

pub push-f-requires : goal.push-f-requires
push-f-requires c = let k = c.lesser-k.ensures in
    (c.requires.1.slots_few, c.requires.1.stands_y, both_some _ _ _ _ _ c.requires.2 c.requires.1.stands_x c.requires.1.stands_y k, omega (arith, k), second_cut _ _ _ _ _ c.requires.2 c.requires.1.stands_y, under_more _ _ _ (omega arith) c.requires.1.under)

pub rest-g-requires : goal.rest-g-requires
rest-g-requires c = search (Cuts, rules)

pub rest-h-requires : goal.rest-h-requires
rest-h-requires c = search (Cuts, rules)

pub returns : goal.returns
returns c = went_retained _ _ _ c.args.s _ _ _ c.requires.1.stands_x c.requires.1.stands_y _ _ c.requires.2 _ c.lesser-k.ensures c.requires.3 c.push-f.ensures c.rest-g.ensures c.rest-h.ensures
