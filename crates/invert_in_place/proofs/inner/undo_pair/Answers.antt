use native.Mathlib.Omega.{arith}
use Rattle.invert_in_place.proofs.Placing.{next_in, next_chars, next_rest, next_room, undoes_pair}
use borrow.Author.Rules.{rules}
use Rattle.invert_in_place.proofs.inner.undo_pair.Goals as goal

pub count-more-requires : goal.count-more-requires
count-more-requires c = (search rules, search rules, search next_in)

pub end_of-to-requires : goal.end_of-to-requires
end_of-to-requires c = (search rules, search rules, search rules, search rules, search next_chars, search next_rest)

pub write_op-requires : goal.write_op-requires
write_op-requires c = search (next_room, rules)

pub overflow_add-result-2 : goal.overflow_add-result-2
overflow_add-result-2 c = omega (arith, c.requires.0.reached.along.place.room, c.requires.1.small)

pub overflow_add-result-3 : goal.overflow_add-result-3
overflow_add-result-3 c = let p = c.requires.0 in omega (arith, p.few, p.bytes, p.reached.few, p.reached.along.inside, c.end_of-to.ensures.below)

pub returns : goal.returns
returns c = let p = c.requires.0 in
    undoes_pair _ _ _ _ p.reached p.ops p.ahead _ _ c.requires.1 c.requires.2 _ c.count-more.ensures.0 c.count-more.ensures.1 _ c.end_of-to.ensures _ _ _ c.write_op.ensures c.restore.ensures
