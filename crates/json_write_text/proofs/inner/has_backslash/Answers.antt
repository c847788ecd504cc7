use Rattle.json_write_text.proofs.Escapes.{backslash_mark, backslash_other}
use Rattle.json_write_text.proofs.inner.has_backslash.Goals as goal

pub returns-then-b-eq-QUOTATION_MARK : goal.returns-then-b-eq-QUOTATION_MARK
returns-then-b-eq-QUOTATION_MARK c = search backslash_mark

pub returns : goal.returns
returns c = search backslash_other
