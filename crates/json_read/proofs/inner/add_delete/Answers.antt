use Rattle.json_read.proofs.Holding.{delete_skips, delete_feeds}
use Rattle.json_read.proofs.inner.add_delete.Goals as goal

pub returns-then-not-keeps_limits : goal.returns-then-not-keeps_limits
returns-then-not-keeps_limits c = search delete_skips

pub returns : goal.returns
returns c = search delete_feeds
