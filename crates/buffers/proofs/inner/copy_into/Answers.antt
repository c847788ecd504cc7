use Rattle.std.proofs.Common.{◌≡◌, length, arith}
use native.Mathlib.Numerals.{add-one}
use lib.Seq.{paste-zero, paste-suc, take-length}
use Rattle.buffers.proofs.inner.copy_into.Goals as goal

pub loop-j-init : goal.loop-j-init
loop-j-init c = paste-zero c.args.dst.now c.args.at c.args.src.now

pub loop-j-preserved : goal.loop-j-preserved
loop-j-preserved c = let a = c.args in
    rw (c.loop-j.invariant, add-one) (paste-suc a.dst.now a.at a.src.now c.loop-j.j 0 (omega arith) (omega arith))

pub returns : goal.returns
returns c = let e : c.loop-j.j ≡ length c.args.src.now = omega arith in
    rw (e, take-length) at c.loop-j.invariant
