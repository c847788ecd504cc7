use Rattle.json_write_text.proofs.Escapes.{digit_low, digit_high}
use Rattle.json_write_text.proofs.inner.hex_digit.Goals as goal

pub returns-then-n-lt10 : goal.returns-then-n-lt10
returns-then-n-lt10 c = search digit_low

pub returns-else-n-lt10 : goal.returns-else-n-lt10
returns-else-n-lt10 c = search digit_high
