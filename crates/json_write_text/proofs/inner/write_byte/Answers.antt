use Prim.Native.Nat.{◌+◌, ◌≤◌}
use native.Mathlib.Omega.{arith}
use lib.ListN.{length, length-set}
use Rattle.json_write_text.proofs.Escapes.{code_room, mark_room, mark_puts, self_room, self_puts}
use borrow.Author.Rules.{rules}
use Rattle.json_write_text.proofs.inner.write_byte.Goals as goal

pub write_code-requires : goal.write_code-requires
write_code-requires c = (search rules, search code_room)

pub bounds-out-at : goal.bounds-out-at
bounds-out-at c = let h : c.args.at + 2 ≤ length c.args.out.now = search mark_room in omega arith

pub bounds-out-at-then-has_backslash : goal.bounds-out-at-then-has_backslash
bounds-out-at-then-has_backslash c = let h : c.args.at + 2 ≤ length c.args.out.now = search mark_room in simp length-set (omega arith)

pub returns-then-has_backslash : goal.returns-then-has_backslash
returns-then-has_backslash c = search mark_puts

pub bounds-out-at-2 : goal.bounds-out-at-2
bounds-out-at-2 c = let h : c.args.at + 1 ≤ length c.args.out.now = search self_room in omega arith

pub returns : goal.returns
returns c = search self_puts
