use Rattle.std.specs.Prelude.{◌-◌, length}
use mathlib.Core.Path.{refl}
use native.Mathlib.Omega.{arith}
use Rattle.characters.proofs.Marked.{told_end, told_last}
use Rattle.counting.proofs.inner.rest.Goals as goal

pub returns-then-n-eq0 : goal.returns-then-n-eq0
returns-then-n-eq0 c = let a = c.args in
    told_end a.text.now a.at a.sum (omega arith)

pub returns : goal.returns
returns c = let a = c.args in
    told_last a.text.now a.at a.sum (length a.text.now - a.at) c.last.result (omega arith) refl c.last.ensures.0
