use Rattle.undo.proofs.Inverting.{room_whole}
use borrow.Author.Rules.{rules}
use Rattle.undo.proofs.in_own_buffer.Goals as goal

pub accept_inverse-requires : goal.accept_inverse-requires
accept_inverse-requires c = (search rules, room_whole _ _ (search rules))
