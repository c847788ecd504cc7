use Rattle.json_strings.proofs.Spans.{plains_none, plains_eight}
use Rattle.json_strings.proofs.inner.by_eight.Goals as goal

pub loop-i-init : goal.loop-i-init
loop-i-init c = search plains_none

pub loop-i-preserved : goal.loop-i-preserved
loop-i-preserved c = search plains_eight
