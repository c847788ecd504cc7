use native.Mathlib.Omega.{arith}
use Rattle.places.proofs.Writing.{count_none, count_some, emit_none, emit_some, emit_in, set_inside}
use Rattle.places.proofs.inner.write_op_if_any.Goals as goal

pub returns-then-count-eq0 : goal.returns-then-count-eq0
returns-then-count-eq0 c = (search count_none, omega arith, search emit_none)

pub bounds-out-at : goal.bounds-out-at
bounds-out-at c = search set_inside

pub returns-then-at-out : goal.returns-then-at-out
returns-then-at-out c = (search count_some, omega arith, rw (← c.from.ensures) (search emit_in))

pub returns : goal.returns
returns c = (search count_some, omega arith, rw (← c.from-2.ensures) (search emit_some))
