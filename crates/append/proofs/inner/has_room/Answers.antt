use Rattle.append.proofs.Answering.{room_short, room_rest}
use Rattle.append.proofs.inner.has_room.Goals as goal

pub returns-then-log-used : goal.returns-then-log-used
returns-then-log-used c = search room_short

pub returns : goal.returns
returns c = search room_rest
