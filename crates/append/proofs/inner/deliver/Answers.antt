use Rattle.append.proofs.Delivering.{hands}
use Rattle.append.proofs.Places.{log_small}
use Rattle.append.proofs.Answering.{accepts_room, room_log, room_out, accepts_moved}
use Rattle.append.proofs.inner.deliver.Goals as goal

pub returns-then-not-has_room : goal.returns-then-not-has_room
returns-then-not-has_room c = record { tries = accepts_room _ _ _ _ _ c.requires.0 _ _ c.requires.1 _ c.size-size.ensures.0 _ c.has_room.ensures c.if-not-has_room.true-raw }

pub append-requires : goal.append-requires
append-requires c = (c.requires.0.found.count, c.requires.0.found.few, c.requires.0.found.size, log_small _ _ _ c.requires.0.found, c.size-size.ensures.2, room_log _ _ _ _ _ _ c.has_room.ensures c.if-not-has_room.false-raw)

pub returns : goal.returns
returns c = record { tries = accepts_moved _ _ _ _ _ c.requires.0 _ _ c.requires.1 _ c.size-size.ensures.0 _ c.has_room.ensures c.if-not-has_room.false-raw _ _ _ (hands _ _ _ _ _ _ c.requires.1 c.requires.2 c.if-parts-bytes.false _ _ (room_out _ _ _ _ _ _ c.has_room.ensures c.if-not-has_room.false-raw) c.copy.ensures) c.append.ensures }
