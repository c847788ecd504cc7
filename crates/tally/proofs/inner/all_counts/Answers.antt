use Rattle.std.proofs.Common.{refl, rules}
use Rattle.tally.proofs.Parting.{whole_few, whole_more, whole_found}
use Rattle.tally.proofs.inner.all_counts.Goals as goal

pub returns-then-n-lt32 : goal.returns-then-n-lt32
returns-then-n-lt32 c = search whole_few

pub loop-k-init : goal.loop-k-init
loop-k-init c = (search rules, refl)

pub loop-k-preserved : goal.loop-k-preserved
loop-k-preserved c = (search rules, search whole_more)

pub returns : goal.returns
returns c = search whole_found
