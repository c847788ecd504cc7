use Rattle.json_write.proofs.Numbers.{Digits}
use Rattle.json_write.proofs.inner.write_decimal.Given as goal

abbrev pub invariant-loop-i : goal.invariant-loop-i
invariant-loop-i l = Digits l.initial.out l.at l.n l.out l.i l.rest
