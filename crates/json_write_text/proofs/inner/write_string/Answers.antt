use Prim.Native.Nat.{◌<◌}
use lib.ListN.{length}
use Rattle.json_write_text.proofs.Texts.{string_first, string_room, string_last, string_ends, string_puts, string_same}
use borrow.Author.Rules.{rules}
use Rattle.json_write_text.proofs.inner.write_string.Goals as goal

pub bounds-out-at : goal.bounds-out-at
bounds-out-at c = search string_first

pub write_text-end-requires : goal.write_text-end-requires
write_text-end-requires c = (search rules, search rules, search string_room)

pub bounds-out-end : goal.bounds-out-end
bounds-out-end c = search string_last

pub overflow_add-result : goal.overflow_add-result
overflow_add-result c = let h : c.write_text-end.result < length c.args.out.now = search string_ends in search rules

pub shape_of-out : goal.shape_of-out
shape_of-out c = search string_same

pub returns : goal.returns
returns c = search string_puts
