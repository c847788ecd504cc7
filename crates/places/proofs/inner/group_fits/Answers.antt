use Rattle.places.proofs.Writing.{fits_none, fits_over, fits_room}
use Rattle.places.proofs.inner.group_fits.Goals as goal

pub returns-then-ret-eq0 : goal.returns-then-ret-eq0
returns-then-ret-eq0 c = search fits_none

pub returns-then-n-ops : goal.returns-then-n-ops
returns-then-n-ops c = search fits_over

pub returns : goal.returns
returns c = search fits_room
