use Rattle.compose.proofs.Looping.{composes_lengths}
use Rattle.compose.proofs.inner.composed.Goals as goal

pub returns-then-target-base : goal.returns-then-target-base
returns-then-target-base c = search composes_lengths
