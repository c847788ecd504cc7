use Rattle.std.specs.Prelude.{◌<◌, length}
use Rattle.json_write.proofs.Lists.{value_inside, value_room, mark_room, next_steps}
use borrow.Author.Rules.{rules}
use Rattle.json_write.proofs.inner.write_next.Goals as goal

pub write_value-end-requires : goal.write_value-end-requires
write_value-end-requires c = (search rules, search value_inside, search value_room)

pub bounds-out-end : goal.bounds-out-end
bounds-out-end c = search mark_room

pub overflow_add-result-3 : goal.overflow_add-result-3
overflow_add-result-3 c = let h : c.write_value-end.result < length c.write_value-end.new.out = search mark_room in search rules

pub returns : goal.returns
returns c = search next_steps
