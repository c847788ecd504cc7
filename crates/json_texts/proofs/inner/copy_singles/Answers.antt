use native.Mathlib.Omega.{arith}
use Rattle.json_texts.proofs.Moves.{moved_none, moved_to, more_bytes, room_byte, moved_byte}
use Rattle.json_texts.proofs.inner.copy_singles.Goals as goal

pub loop-k-init : goal.loop-k-init
loop-k-init c = moved_to (moved_none c.requires) (omega arith) (omega arith)

pub bounds-list-at : goal.bounds-list-at
bounds-list-at c = more_bytes c.requires c.loop-k.invariant

pub bounds-out-to : goal.bounds-out-to
bounds-out-to c = room_byte c.requires c.loop-k.invariant c.if-b-eq-QUOTATION_MARK.false c.if-b-eq-BACKSLASH.false

pub loop-k-preserved : goal.loop-k-preserved
loop-k-preserved c = moved_to (moved_byte c.requires c.loop-k.invariant c.if-b-eq-QUOTATION_MARK.false c.if-b-eq-BACKSLASH.false) (omega arith) (omega arith)
