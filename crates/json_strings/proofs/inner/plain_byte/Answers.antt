use Rattle.json_strings.proofs.Words.{byte_control, byte_high, byte_mark, byte_other}
use Rattle.json_strings.proofs.inner.plain_byte.Goals as goal

pub returns-then-b-lt32 : goal.returns-then-b-lt32
returns-then-b-lt32 c = search byte_control

pub returns-then-b-ge128 : goal.returns-then-b-ge128
returns-then-b-ge128 c = search byte_high

pub returns-then-b-eq-QUOTATION_MARK : goal.returns-then-b-eq-QUOTATION_MARK
returns-then-b-eq-QUOTATION_MARK c = search byte_mark

pub returns : goal.returns
returns c = let n = c.if-b-eq-QUOTATION_MARK.false in search (byte_other, n)
