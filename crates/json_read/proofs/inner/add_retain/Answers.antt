use Rattle.json_read.proofs.Holding.{retain_skips, retain_feeds}
use Rattle.json_read.proofs.inner.add_retain.Goals as goal

pub returns-then-not-keeps_limits : goal.returns-then-not-keeps_limits
returns-then-not-keeps_limits c = search retain_skips

pub returns : goal.returns
returns c = search retain_feeds
