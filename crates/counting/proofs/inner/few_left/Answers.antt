use Rattle.std.specs.Prelude.{◌-◌, length}
use native.Mathlib.Omega.{arith}
use Rattle.characters.proofs.Counted.{last_from, eight_and_last}
use borrow.Author.Rules.{rules}
use Rattle.counting.proofs.inner.few_left.Goals as goal

pub returns-then-n-lt8 : goal.returns-then-n-lt8
returns-then-n-lt8 c = let a = c.args in let t = a.text.now in
    (last_from t a.from (length t - a.from) c.count_rest.result (omega arith) c.count_rest.ensures.0, search rules)

pub returns : goal.returns
returns c = let a = c.args in let t = a.text.now in
    (eight_and_last t a.from (length t - a.from - 8) c.count_eight.result c.count_rest-2.result (omega arith) c.count_eight.ensures.0 c.count_rest-2.ensures.0, search rules)
