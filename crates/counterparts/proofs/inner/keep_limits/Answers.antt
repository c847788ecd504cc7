use Rattle.counterparts.proofs.Passing.{keep_first, keeps_both}
use Rattle.counterparts.proofs.inner.keep_limits.Goals as goal

pub returns-then-not-keeps_limits : goal.returns-then-not-keeps_limits
returns-then-not-keeps_limits c = search keep_first

pub returns : goal.returns
returns c = search keeps_both
