use Rattle.entries.proofs.Tallying.{count_one}
use Rattle.entries.proofs.inner.add_entry.Goals as goal

pub returns : goal.returns
returns c = search count_one
