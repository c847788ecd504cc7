use native.Mathlib.Omega.{arith}
use Rattle.characters.proofs.Marked.{word_starts}
use Rattle.counting.proofs.inner.starts.Goals as goal

pub returns : goal.returns
returns c = let a = c.args in
    word_starts a.text.now a.at c.word-w.result c.word-w.ensures (omega arith) (λ k. omega (arith, c.type_inv.text k))
