use native.Mathlib.Omega.{arith}
use Rattle.characters.proofs.Window.{only_not, only_none}
use Rattle.blocks.proofs.inner.begins.Goals as goal

pub returns-then-at-lt3 : goal.returns-then-at-lt3
returns-then-at-lt3 c = search only_not

pub returns-then-text-lt19 : goal.returns-then-text-lt19
returns-then-text-lt19 c = search only_not

pub returns : goal.returns
returns c = only_none _ _ c.pending.ensures.0 (λ z. (omega arith, omega arith, z))
