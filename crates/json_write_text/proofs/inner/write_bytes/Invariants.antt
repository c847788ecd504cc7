use Rattle.json_write_text.proofs.Texts.{TextLeft}
use Rattle.json_write_text.proofs.inner.write_bytes.Given as goal

abbrev pub invariant-loop-i : goal.invariant-loop-i
invariant-loop-i l = TextLeft l.initial.out l.at l.rec l.from l.to l.out l.i l.end
