use native.Mathlib.Omega.{arith}
use Rattle.append.proofs.Places.{log_small}
use Rattle.append.proofs.Answering.{accepts_room, room_log, accepts_moved}
use Rattle.append.proofs.Appending.{newest_moved, newest_hands}
use Rattle.append.proofs.inner.append_unmoved.Goals as goal

pub returns-then-not-has_room : goal.returns-then-not-has_room
returns-then-not-has_room c = accepts_room _ _ _ _ _ c.requires.0 0 _ (newest_moved c.args.edit.now (λ i. omega (arith, c.type_inv.edit i)) c.requires.0.fault _ _ c.requires.1) _ c.size-size.ensures.0 _ c.has_room.ensures c.if-not-has_room.true-raw

pub append-requires : goal.append-requires
append-requires c = (c.requires.0.found.count, c.requires.0.found.few, c.requires.0.found.size, log_small _ _ _ c.requires.0.found, c.size-size.ensures.2, room_log _ _ _ _ _ _ c.has_room.ensures c.if-not-has_room.false-raw)

pub returns : goal.returns
returns c = accepts_moved _ _ _ _ _ c.requires.0 0 _ (newest_moved c.args.edit.now (λ i. omega (arith, c.type_inv.edit i)) c.requires.0.fault _ _ c.requires.1) _ c.size-size.ensures.0 _ c.has_room.ensures c.if-not-has_room.false-raw _ _ _ (newest_hands c.args.edit.now (λ i. omega (arith, c.type_inv.edit i)) c.requires.0.fault _ _ c.requires.1 _) c.append.ensures
