use Rattle.undo.proofs.Inverting.{room_told}
use Rattle.undo.proofs.surely_has_room.Goals as goal

pub returns : goal.returns
returns c = search room_told
