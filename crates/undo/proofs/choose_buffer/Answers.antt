use Rattle.undo.proofs.Inverting.{before_inside, before_fault, room_surely}
use borrow.Author.Rules.{rules}
use Rattle.undo.proofs.choose_buffer.Goals as goal

pub slice_bounds-surely_has_room-count : goal.slice_bounds-surely_has_room-count
slice_bounds-surely_has_room-count c = search before_inside

pub slice_bounds-surely_has_room-start : goal.slice_bounds-surely_has_room-start
slice_bounds-surely_has_room-start c = search (before_inside, rules)

pub surely_has_room-requires : goal.surely_has_room-requires
surely_has_room-requires c = search before_fault

pub accept_inverse-requires : goal.accept_inverse-requires
accept_inverse-requires c = (search rules, search room_surely)
