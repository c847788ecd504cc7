use native.Mathlib.Omega.{arith}
use Rattle.characters.proofs.Marked.{eight_counted}
use Rattle.counting.proofs.inner.count_eight.Goals as goal

pub overflow_cast-result : goal.overflow_cast-result
overflow_cast-result c = let a = c.args in
    omega (arith, (eight_counted a.text.now a.at c.starts.result c.starts.ensures).1)

pub returns : goal.returns
returns c = let a = c.args in
    eight_counted a.text.now a.at c.starts.result c.starts.ensures
