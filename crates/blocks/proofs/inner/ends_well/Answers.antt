use Rattle.std.specs.Prelude.{◌≡◌, ◌+◌, ◌-◌, length}
use native.Mathlib.Omega.{arith}
use Rattle.characters.proofs.Window.{only_not, only_none}
use Rattle.blocks.proofs.inner.ends_well.Goals as goal

pub returns-then-s-ne0 : goal.returns-then-s-ne0
returns-then-s-ne0 c = search only_not

pub returns : goal.returns
returns c = let t = c.args.text.now in
    let e : length t - 16 + 16 ≡ length t = omega arith in
    only_none _ _ c.pending.ensures.0 (λ z. (rw e at (c.check16-s.ensures.well (omega arith)), z))
