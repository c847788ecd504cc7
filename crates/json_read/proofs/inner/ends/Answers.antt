use Rattle.json_read.proofs.Opening.{ends_is}
use Rattle.json_read.proofs.inner.ends.Goals as goal

pub returns : goal.returns
returns c = search ends_is
