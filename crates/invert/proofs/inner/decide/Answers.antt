use Rattle.invert.proofs.Inverses.{decided_surely, decided_limit, decided_room, decided_fits}
use Rattle.invert.proofs.inner.decide.Goals as goal

pub returns-then-surely_fits : goal.returns-then-surely_fits
returns-then-surely_fits c = search decided_surely

pub returns-then-size-gt-MAX_SIZE : goal.returns-then-size-gt-MAX_SIZE
returns-then-size-gt-MAX_SIZE c = search decided_limit

pub returns-then-room-text_start : goal.returns-then-room-text_start
returns-then-room-text_start c = search decided_room

pub returns : goal.returns
returns c = search decided_fits
