use native.Mathlib.Omega.{arith}
use Rattle.std.specs.Prelude.{◌-◌, ◌≤◌, length}
use Rattle.characters.proofs.Counted.{none_left}
use Rattle.counting.proofs.inner.count_rest.Goals as goal

pub returns-then-n-eq0 : goal.returns-then-n-eq0
returns-then-n-eq0 c = let a = c.args in
    let l : length a.text.now ≤ length a.text.now - a.n = omega arith in
    (none_left a.text.now (length a.text.now - a.n) l, omega arith)
