use Rattle.json_escapes.proofs.Digits.{SomeDigits}
use Rattle.json_escapes.proofs.inner.four_digits.Given as goal

abbrev pub invariant-loop-k : goal.invariant-loop-k
invariant-loop-k l = SomeDigits l.list l.at l.k l.v
