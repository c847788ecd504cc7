use native.Mathlib.Omega.{arith}
use Rattle.characters.proofs.Marked.{last_counted}
use Rattle.counting.proofs.inner.count_last.Goals as goal

pub overflow_cast-result : goal.overflow_cast-result
overflow_cast-result c = let a = c.args in
    omega (arith, (last_counted a.text.now a.n c.starts.result (omega arith) (omega arith) (omega arith) (omega arith) c.starts.ensures).1)

pub returns : goal.returns
returns c = let a = c.args in
    last_counted a.text.now a.n c.starts.result (omega arith) (omega arith) (omega arith) (omega arith) c.starts.ensures
