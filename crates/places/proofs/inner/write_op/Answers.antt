use Rattle.places.proofs.Writing.{enter_low, enter_high, enter_in}
use Rattle.places.proofs.inner.write_op.Goals as goal

pub bounds-out-at : goal.bounds-out-at
bounds-out-at c = search enter_low

pub bounds-out-at-2 : goal.bounds-out-at-2
bounds-out-at-2 c = search enter_high

pub returns : goal.returns
returns c = rw (← c.from.ensures) (search enter_in)
