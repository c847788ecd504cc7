use Rattle.json_write.proofs.Values.{minus_first, minus_room, minus_puts, minus_same}
use borrow.Author.Rules.{rules}
use Rattle.json_write.proofs.inner.write_negative.Goals as goal

pub bounds-out-at : goal.bounds-out-at
bounds-out-at c = search minus_first

pub write_decimal-requires : goal.write_decimal-requires
write_decimal-requires c = (search rules, search minus_room)

pub shape_of-out : goal.shape_of-out
shape_of-out c = search minus_same

pub returns : goal.returns
returns c = search minus_puts
