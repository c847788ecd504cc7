use Rattle.json_write.proofs.Numbers.{digits_start, digits_more, digits_end}
use Rattle.json_write.proofs.inner.write_decimal.Goals as goal

pub loop-i-init : goal.loop-i-init
loop-i-init c = search digits_start

pub loop-i-preserved : goal.loop-i-preserved
loop-i-preserved c = search digits_more

pub returns : goal.returns
returns c = search digits_end
