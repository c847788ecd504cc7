use Rattle.characters.proofs.Bytes.{told_outside}
use Rattle.block16.proofs.inner.outside.Goals as goal

pub returns : goal.returns
returns c = search told_outside
