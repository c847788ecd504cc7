use Rattle.characters.proofs.Counted.{Counted}
use Rattle.counting.proofs.inner.count_block.Given as goal

abbrev pub invariant-loop-b : goal.invariant-loop-b
invariant-loop-b l = Counted l.text l.b-index l.n
