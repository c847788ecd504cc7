use Rattle.json_read.proofs.Opening.{finish_over, finish_done}
use Rattle.json_read.proofs.inner.finish.Goals as goal

pub returns-then-not-keeps_limits : goal.returns-then-not-keeps_limits
returns-then-not-keeps_limits c = search finish_over

pub returns : goal.returns
returns c = search finish_done
