use native.Mathlib.Omega.{arith}
use Rattle.append.proofs.Appending.{lays}
use borrow.Author.Rules.{rules}
use Rattle.append.proofs.inner.load_edit.Goals as goal

pub returns : goal.returns
returns c = let start = c in
    (lays start.args.edit.now (λ i. omega (arith, c.type_inv.edit i)) start.requires.0 _ _ _ start.requires.1 c.size-size.ensures.0 c.copy.ensures, search rules)
