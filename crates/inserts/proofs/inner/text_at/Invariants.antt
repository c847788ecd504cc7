use Rattle.inserts.specs.InnerTexts.{Reached}
use Rattle.inserts.proofs.inner.text_at.Given as goal

abbrev pub invariant-loop-i : goal.invariant-loop-i
invariant-loop-i l = Reached l.rec l.i l.at
