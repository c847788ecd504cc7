use Rattle.std.proofs.Common.{◌≡◌, ◌/◌, ◌%◌, get_or, arith}
use Rattle.buffers.proofs.Over.{put16_both}
use Rattle.buffers.proofs.inner.put16.Goals as goal

pub returns : goal.returns
returns c = let v = c.args.v in
    let low : get_or c.to_le_bytes.result 0 0 ≡ v % 256 = rw c.to_le_bytes.ensures (omega arith) in
    let high : get_or c.to_le_bytes.result 1 0 ≡ v / 256 % 256 = rw c.to_le_bytes.ensures (omega arith) in
    put16_both c.args.at v c.args.out.now (rw low at c.put.ensures) (rw high at c.put-2.ensures)
