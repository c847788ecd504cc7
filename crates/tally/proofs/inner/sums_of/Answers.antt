use Rattle.tally.proofs.Summing.{sums_unsound, sums_found}
use Rattle.tally.proofs.inner.sums_of.Goals as goal

pub returns-then-t-ne0 : goal.returns-then-t-ne0
returns-then-t-ne0 c = search sums_unsound

pub returns : goal.returns
returns c = search sums_found
