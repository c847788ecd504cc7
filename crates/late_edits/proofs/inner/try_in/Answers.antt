use Rattle.std.proofs.lemmas.Result.{err_from_is_err_and}
use native.Mathlib.Omega.{arith}
use Rattle.append.proofs.Delivering.{past_moved, past_stored, past_ends}
use Rattle.append.proofs.Places.{from_inside, few_from, lie_from}
use borrow.Author.Rules.{rules}
use Rattle.late_edits.proofs.inner.try_in.Goals as goal

pub rebase-requires : goal.rebase-requires
rebase-requires c = (from_inside _ _ _ c.requires.0.found c.requires.0.rev _ c.requires.1, few_from _ _ _ c.requires.0.found c.requires.0.rev _ c.requires.1, lie_from _ _ _ c.requires.0.found c.requires.0.rev _ c.requires.1 _ c.requires.0.meets, c.requires.0.fault, c.load_edit.ensures.0, c.requires.2, c.requires.3, omega (arith, c.requires.4))

pub deliver-requires : goal.deliver-requires
deliver-requires c = (c.requires.0, past_moved _ _ _ _ c.requires.0 _ c.requires.1 _ _ _ _ _ _ c.rebase.ensures _ c.in_ok-bytes.was, past_stored _ _ _ _ c.requires.0 _ c.requires.1 _ _ _ _ _ _ c.rebase.ensures _ c.in_ok-bytes.was (search rules))

pub returns-in_err-bytes : goal.returns-in_err-bytes
returns-in_err-bytes c = let p = err_from_is_err_and c.from_residual.result c.from_residual.ensures.1 in rw (p.1, p.2) (past_ends _ _ _ _ c.requires.0 _ c.requires.1 _ _ _ _ _ _ c.rebase.ensures _ c.in_err-bytes.was _)
