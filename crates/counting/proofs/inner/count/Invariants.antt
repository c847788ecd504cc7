use Rattle.characters.proofs.Counted.{Counted}
use Rattle.counting.proofs.inner.count.Given as goal

abbrev pub invariant-loop-b : goal.invariant-loop-b
invariant-loop-b l = Counted l.bytes l.b-index l.n
