use Rattle.json_strings.specs.InnerStrings.{Plains}
use Rattle.json_strings.proofs.inner.plain_ascii.Given as goal

abbrev pub invariant-loop-i : goal.invariant-loop-i
invariant-loop-i l = Plains l.text l.at l.i
