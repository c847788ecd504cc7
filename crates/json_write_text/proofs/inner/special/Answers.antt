use Rattle.json_write_text.proofs.Escapes.{special_none}
use Rattle.json_write_text.proofs.inner.special.Goals as goal

pub returns : goal.returns
returns c = search special_none
