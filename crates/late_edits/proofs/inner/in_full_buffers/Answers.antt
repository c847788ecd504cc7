use native.Mathlib.Omega.{arith}
use mathlib.Core.Path.{refl}
use Rattle.append.proofs.Delivering.{record_small, past_moved, past_stops, past_never}
use Rattle.append.proofs.Places.{from_inside, few_from, lie_from}
use borrow.Author.Rules.{rules}
use Rattle.late_edits.proofs.inner.in_full_buffers.Goals as goal

pub load_edit-requires : goal.load_edit-requires
load_edit-requires c = (c.requires.0.fault, omega (arith, record_small _ c.requires.0.fault, c.requires.2))

pub rebase-requires : goal.rebase-requires
rebase-requires c = (from_inside _ _ _ c.requires.0.found c.requires.0.rev _ c.requires.1, few_from _ _ _ c.requires.0.found c.requires.0.rev _ c.requires.1, lie_from _ _ _ c.requires.0.found c.requires.0.rev _ c.requires.1 _ c.requires.0.meets, c.requires.0.fault, c.load_edit.ensures.0, c.requires.3, c.requires.4, omega arith)

pub write_again-requires : goal.write_again-requires
write_again-requires c = (c.requires.0, c.requires.1, search rules, search rules, search rules, past_moved _ _ _ _ c.requires.0 _ c.requires.1 _ _ _ _ _ _ c.rebase.ensures _ c.in-Ok.is)

pub returns-in-Err-Refused : goal.returns-in-Err-Refused
returns-in-Err-Refused c = rw c.in-Err-Refused.field-0-is (past_stops _ _ _ _ c.requires.0 _ c.requires.1 _ _ _ _ _ _ c.rebase.ensures _ (rw c.in-Err-Refused.field-0-is at c.in-Err-Refused.is) _)

pub returns-in-Err-Short : goal.returns-in-Err-Short
returns-in-Err-Short c = past_never _ _ _ _ c.requires.0 _ c.requires.1 _ _ _ _ _ _ c.rebase.ensures refl (search rules) (rw c.in-Err-Short.field-0-is at c.in-Err-Short.is) _
