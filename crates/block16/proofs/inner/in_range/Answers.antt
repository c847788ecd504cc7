use Rattle.std.proofs.Common.{rules}
use Rattle.characters.specs.Form.{within}
use Rattle.block16.proofs.inner.in_range.Goals as goal

pub returns : goal.returns
unfolding within
returns c = search rules
