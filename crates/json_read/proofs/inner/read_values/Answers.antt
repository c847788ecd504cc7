use mathlib.Core.Path.{refl}
use Rattle.json_read.proofs.Listing.{going_start, going_holds, going_fails, going_sized, going_cut, going_end, going_less, going_more}
use borrow.Author.Rules.{rules}
use Rattle.json_read.proofs.inner.read_values.Goals as goal

pub loop-x-init : goal.loop-x-init
loop-x-init c = (search going_start, search rules)

pub returns-in_err-x : goal.returns-in_err-x
returns-in_err-x c = rw c.from_residual.ensures (going_fails _ _ _ _ _ _ _ c.loop-x.invariant.0 c.in_err-x.ensures)

pub add_value-e-requires : goal.add_value-e-requires
add_value-e-requires c = (going_sized _ _ _ _ _ _ _ c.loop-x.invariant.0 _ _ c.in_ok-x.ensures, search rules, search rules, search going_holds)

pub after_value-requires : goal.after_value-requires
after_value-requires c = c.in_ok-x.ensures.below

pub returns-in_err-to : goal.returns-in_err-to
returns-in_err-to c =
    rw c.from_residual-in_err-to.ensures (going_cut _ _ _ _ _ _ _ c.loop-x.invariant.0 _ _ c.in_ok-x.ensures c.in_err-to.ensures)

pub returns-in-End : goal.returns-in-End
returns-in-End c = going_end _ _ _ _ _ _ _ c.loop-x.invariant.0 _ _ c.in_ok-x.ensures _ _ c.add_value-e.ensures _ c.in_ok-to.ensures c.in-End.is _ refl refl

pub loop-x-smaller : goal.loop-x-smaller
loop-x-smaller c = going_less _ _ _ _ _ _ _ c.loop-x.invariant.0 _ _ c.in_ok-x.ensures _ _ c.add_value-e.ensures _ c.in_ok-to.ensures c.in-Value.is

pub loop-x-preserved : goal.loop-x-preserved
loop-x-preserved c = (going_more _ _ _ _ _ _ _ c.loop-x.invariant.0 _ _ c.in_ok-x.ensures _ _ c.add_value-e.ensures _ c.in_ok-to.ensures c.in-Value.is, search rules)
