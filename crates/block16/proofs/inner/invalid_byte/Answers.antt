use Rattle.characters.proofs.Bytes.{told_never}
use Rattle.block16.proofs.inner.invalid_byte.Goals as goal

pub returns : goal.returns
returns c = search told_never
