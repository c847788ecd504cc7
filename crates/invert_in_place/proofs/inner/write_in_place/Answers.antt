use Rattle.invert_in_place.proofs.Placing.{undone_start, undone_more, put_above, text_few, undone_size, undone_writes}
use borrow.Author.Rules.{rules}
use Rattle.invert_in_place.proofs.inner.write_in_place.Goals as goal

pub loop-s-init : goal.loop-s-init
loop-s-init c = (search undone_start, search rules)

pub undo-s-requires : goal.undo-s-requires
undo-s-requires c = search (text_few, rules)

pub loop-s-preserved : goal.loop-s-preserved
loop-s-preserved c = (search undone_more, search rules)

pub overflow_sub-s : goal.overflow_sub-s
overflow_sub-s c = search put_above

pub returns : goal.returns
returns c = (search undone_size, search undone_writes)
