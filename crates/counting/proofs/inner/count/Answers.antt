use Rattle.characters.proofs.Counted.{counted_none, counted_all, counted_start, counted_cont}
use borrow.Author.Rules.{rules}
use Rattle.counting.proofs.inner.count.Goals as goal
use Rattle.counting.proofs.inner.count.Goals.{then-not-is_cont, else-not-is_cont}

pub loop-b-init : goal.loop-b-init
loop-b-init c = search counted_none

pub loop-b-preserved : goal.loop-b-preserved
loop-b-preserved c =
    elim c.if-not-is_cont.branch [ then-not-is_cont w ↦ rw w.n-is (search counted_start) | else-not-is_cont w ↦ rw w.n-is (search counted_cont) ]

pub returns : goal.returns
returns c = (search counted_all, search rules)
