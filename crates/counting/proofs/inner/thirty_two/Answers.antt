use native.Mathlib.Omega.{arith}
use Rattle.characters.proofs.Marked.{told_four}
use Rattle.counting.proofs.inner.thirty_two.Goals as goal

pub returns : goal.returns
returns c = let a = c.args in
    (record { same = told_four a.text.now a.at c.marks.result c.marks-2.result c.marks-3.result c.marks-4.result c.marks.ensures.0 c.marks-2.ensures.0 c.marks-3.ensures.0 c.marks-4.ensures.0; below = omega arith; few = omega arith }, omega arith)
