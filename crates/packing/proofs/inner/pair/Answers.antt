use Prim.Native.Nat.{◌≤◌}
use native.Mathlib.Omega.{arith}
use Rattle.packing.proofs.Packing.{pair_is, pair_first, pair_second, pair_refused}
use Rattle.packing.proofs.inner.pair.Goals as goal

pub overflow_mul-result : goal.overflow_mul-result
overflow_mul-result c = let h : c.in-Ok.n ≤ 9177088 = search pair_second in omega arith

pub overflow_add-result : goal.overflow_add-result
overflow_add-result c = let g : c.in-Ok.m ≤ 9177088 = search pair_first in
    let h : c.in-Ok.n ≤ 9177088 = search pair_second in
    omega arith

pub returns-in-Ok : goal.returns-in-Ok
returns-in-Ok c = search pair_is

pub returns-in-Err : goal.returns-in-Err
returns-in-Err c = search pair_refused
