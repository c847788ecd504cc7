use Rattle.steps.proofs.Turning.{live_first, live_other}
use Rattle.steps.proofs.inner.live.Goals as goal

pub returns-then-x-eq-AT_END : goal.returns-then-x-eq-AT_END
returns-then-x-eq-AT_END c = search live_other

pub returns : goal.returns
returns c = search live_first
