use native.Mathlib.Omega.{arith}
use Rattle.characters.proofs.Marked.{told_two}
use Rattle.counting.proofs.inner.sixteen.Goals as goal

pub returns : goal.returns
returns c = let a = c.args in
    (record { same = told_two a.text.now a.at a.sum c.marks.result c.marks-2.result c.marks.ensures.0 c.marks-2.ensures.0; below = omega arith; few = omega arith }, omega arith)
