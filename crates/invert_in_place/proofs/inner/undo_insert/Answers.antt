use native.Mathlib.Omega.{arith}
use Rattle.invert_in_place.proofs.Placing.{text_in, follows_told, undoes_insert}
use borrow.Author.Rules.{rules}
use Rattle.invert_in_place.proofs.inner.undo_insert.Goals as goal

pub count_in-num-requires : goal.count_in-num-requires
count_in-num-requires c = (omega arith, search text_in)

pub undo_pair-requires : goal.undo_pair-requires
undo_pair-requires c = (search rules, search rules, search follows_told)

pub returns : goal.returns
returns c = search undoes_insert
