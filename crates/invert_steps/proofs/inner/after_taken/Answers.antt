use Rattle.invert_steps.proofs.Undoing.{stays, moves}
use Rattle.invert_steps.proofs.inner.after_taken.Goals as goal

pub returns-then-f-eq-AT_INSERT : goal.returns-then-f-eq-AT_INSERT
returns-then-f-eq-AT_INSERT c = search stays

pub returns : goal.returns
returns c = search moves
