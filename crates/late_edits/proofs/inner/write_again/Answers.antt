use native.Mathlib.Omega.{arith}
use mathlib.Core.Path.{refl}
use Rattle.append.proofs.Delivering.{record_small, past_again}
use Rattle.append.proofs.Places.{log_small, from_inside, few_from, lie_from}
use Rattle.append.proofs.Answering.{accepts_room, room_log, room_out, accepts_moved}
use Rattle.late_edits.proofs.inner.write_again.Goals as goal

pub returns-then-not-has_room : goal.returns-then-not-has_room
returns-then-not-has_room c = accepts_room _ _ _ _ _ c.requires.0 _ _ c.requires.5 _ c.size-size.ensures.0 _ c.has_room.ensures c.if-not-has_room.true-raw

pub load_edit-requires : goal.load_edit-requires
load_edit-requires c = (c.requires.0.fault, omega (arith, record_small _ c.requires.0.fault, c.requires.2))

pub rebase-requires : goal.rebase-requires
rebase-requires c = (from_inside _ _ _ c.requires.0.found c.requires.0.rev _ c.requires.1, few_from _ _ _ c.requires.0.found c.requires.0.rev _ c.requires.1, lie_from _ _ _ c.requires.0.found c.requires.0.rev _ c.requires.1 _ c.requires.0.meets, c.requires.0.fault, c.load_edit.ensures.0, c.requires.3, c.requires.4, omega arith)

pub append-requires : goal.append-requires
append-requires c = (c.requires.0.found.count, c.requires.0.found.few, c.requires.0.found.size, log_small _ _ _ c.requires.0.found, omega (arith, c.size-size.ensures.2, c.cur-1.given, c.load_edit, c.cur-2-1.given, c.rebase), room_log _ _ _ _ _ _ c.has_room.ensures c.if-not-has_room.false-raw)

pub returns : goal.returns
returns c = accepts_moved _ _ _ _ _ c.requires.0 _ _ c.requires.5 _ c.size-size.ensures.0 _ c.has_room.ensures c.if-not-has_room.false-raw _ _ _ (past_again _ _ _ _ c.requires.0 _ c.requires.1 _ _ _ _ _ _ c.rebase.ensures refl (omega (arith, c.requires.2, c.cur-1.given, c.load_edit)) _ _ c.requires.5 (room_out _ _ _ _ _ _ c.has_room.ensures c.if-not-has_room.false-raw)) c.append.ensures
