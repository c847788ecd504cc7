use Rattle.characters.proofs.Bytes.{told_due}
use Rattle.block16.proofs.inner.due.Goals as goal

pub returns : goal.returns
returns c = search told_due
