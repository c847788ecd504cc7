use Rattle.std.proofs.Common.{◌+◌}
use Rattle.characters.specs.InnerBlock.{Goes}
use Rattle.block16.proofs.inner.check16.Given as goal

abbrev pub invariant-loop-k : goal.invariant-loop-k
invariant-loop-k l = Goes l.text l.at (l.at + l.k) l.bad l.conts
