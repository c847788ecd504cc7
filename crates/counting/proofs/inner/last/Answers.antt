use Rattle.std.specs.Prelude.{◌-◌, ◌*◌}
use native.Mathlib.Omega.{arith}
use lib.Pow.{shr_le}
use Rattle.characters.proofs.Marked.{last_marks}
use Rattle.counting.proofs.inner.last.Goals as goal

pub returns : goal.returns
returns c = let a = c.args in
    (last_marks a.text.now a.rest c.marks.result (omega arith) (omega arith) c.marks.ensures.0, omega (arith, shr_le c.marks.result (64 - 8 * a.rest)))
