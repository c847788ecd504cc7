use native.Mathlib.Omega.{arith}
use Rattle.characters.proofs.Marked.{told_word}
use Rattle.counting.proofs.inner.eight.Goals as goal

pub returns : goal.returns
returns c = let a = c.args in
    (record { same = told_word a.text.now a.at a.sum c.marks.result c.marks.ensures.0; below = omega arith; few = omega arith }, omega arith)
