use native.Mathlib.Omega.{arith}
use Rattle.buffers.proofs.Moves.{two_moves}
use Rattle.buffers.proofs.inner.copy_few.Goals as goal

pub returns-then-n-ge4 : goal.returns-then-n-ge4
returns-then-n-ge4 c = let a = c.args in
    two_moves 4 a.dst.now a.at a.src.now c.copy_array.new.dst c.copy_array-then-n-ge4.new.dst (omega arith) (omega arith) (omega arith) c.copy_array.ensures c.copy_array-then-n-ge4.ensures

pub returns-then-n-ge2 : goal.returns-then-n-ge2
returns-then-n-ge2 c = let a = c.args in
    two_moves 2 a.dst.now a.at a.src.now c.copy_array-then-n-ge2.new.dst c.copy_array-then-n-ge2-2.new.dst (omega arith) (omega arith) (omega arith) c.copy_array-then-n-ge2.ensures c.copy_array-then-n-ge2-2.ensures
