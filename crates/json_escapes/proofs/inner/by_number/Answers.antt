use native.Mathlib.Omega.{arith}
use mathlib.Core.Path.{refl}
use Rattle.json_escapes.proofs.Escaping.{number_none, number_under, number_there, number_high, number_low, number_over}
use borrow.Author.Rules.{rules}
use Rattle.json_escapes.proofs.inner.by_number.Goals as goal

pub returns-in_err-v : goal.returns-in_err-v
returns-in_err-v c = rw c.from_residual.ensures (number_none c.args.list.now c.args.at c.in_err-v.ensures)

pub low_surrogate-requires : goal.low_surrogate-requires
low_surrogate-requires c = search (number_there, rules)

pub returns-in-55296-to-56319 : goal.returns-in-55296-to-56319
returns-in-55296-to-56319 c = number_high _ _ _ c.in_ok-v.ensures (omega arith) (omega arith) _ c.low_surrogate.ensures

pub returns-in-56320-to-57343 : goal.returns-in-56320-to-57343
returns-in-56320-to-57343 c = number_low _ _ _ c.in_ok-v.ensures (omega arith) (omega arith)

pub returns-in_default : goal.returns-in_default
returns-in_default c = number_under _ _ _ c.in_ok-v.ensures (omega arith) _ refl refl

pub returns-in_default-2 : goal.returns-in_default-2
returns-in_default-2 c = number_over _ _ _ c.in_ok-v.ensures (omega arith) _ refl refl
