use Rattle.characters.proofs.Bytes.{told_off}
use Rattle.block16.proofs.inner.misplaced.Goals as goal

pub returns : goal.returns
returns c = search told_off
