use Rattle.invert_in_place.proofs.Placing.{follows_other, follows_none}
use Rattle.invert_in_place.proofs.inner.delete_follows.Goals as goal

pub returns-then-k-n : goal.returns-then-k-n
returns-then-k-n c = search follows_other

pub returns : goal.returns
returns c = search follows_none
