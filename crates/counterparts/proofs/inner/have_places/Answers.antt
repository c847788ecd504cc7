use Rattle.counterparts.proofs.Passing.{places_first, places_second, places_room}
use Rattle.counterparts.proofs.inner.have_places.Goals as goal

pub returns-then-slots-e : goal.returns-then-slots-e
returns-then-slots-e c = search places_first

pub returns-then-slots-f : goal.returns-then-slots-f
returns-then-slots-f c = search places_second

pub returns : goal.returns
returns c = search places_room
