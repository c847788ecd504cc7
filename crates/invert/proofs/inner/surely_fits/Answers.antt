use Rattle.invert.proofs.Inverses.{sure_long, sure_room}
use Rattle.invert.proofs.inner.surely_fits.Goals as goal

pub returns-then-text-gt-MAX_SIZE : goal.returns-then-text-gt-MAX_SIZE
returns-then-text-gt-MAX_SIZE c = search sure_long

pub returns : goal.returns
returns c = search sure_room
