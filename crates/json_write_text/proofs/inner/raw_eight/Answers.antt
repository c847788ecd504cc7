use Rattle.json_write_text.proofs.Escapes.{raws_eight}
use Rattle.json_write_text.proofs.inner.raw_eight.Goals as goal

pub returns : goal.returns
returns c = search raws_eight
