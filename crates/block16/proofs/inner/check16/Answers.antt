use Rattle.std.proofs.Common.{◌≡◌, ◌+◌, ◌<◌, length, arith}
use Rattle.characters.proofs.Window.{goes_none, goes_more}
use Rattle.block16.proofs.inner.check16.Goals as goal

pub loop-k-init : goal.loop-k-init
loop-k-init c = goes_none _ _ (omega arith)

pub loop-k-preserved : goal.loop-k-preserved
loop-k-preserved c = let a = c.args in
    let h : a.at + c.loop-k.k < length a.text.now = omega arith in
    search goes_more

pub returns : goal.returns
returns c = let z : c.loop-k.k ≡ 16 = omega arith in
    rw z at c.loop-k.invariant
