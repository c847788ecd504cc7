use Rattle.std.proofs.Common.{rules}
use Rattle.characters.specs.Form.{within}
use Rattle.characters.specs.Chars.{is_continuation}
use Rattle.counting.proofs.inner.is_cont.Goals as goal

pub returns : goal.returns
unfolding is_continuation within
returns c = search rules
