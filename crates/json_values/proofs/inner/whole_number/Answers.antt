use native.Mathlib.Omega.{arith}
use Rattle.json_values.proofs.Valued.{whole_cut, whole_under, whole_over, number_cut, number_whole}
use Rattle.json_values.proofs.inner.whole_number.Goals as goal

pub returns-in_err-get : goal.returns-in_err-get
returns-in_err-get c = rw c.from_residual.ensures (whole_cut _ _ c.in_err-get.ensures.lookup.3)

pub number-x-requires : goal.number-x-requires
number-x-requires c =
    let k = c.in_ok-get.ensures.lookup in
    let e = k.4 (omega arith) 0 in
    (k.3.0, omega (arith, e), omega (arith, e))

pub returns-then-x-list : goal.returns-then-x-list
returns-then-x-list c =
    let k = c.in_ok-get.ensures.lookup in
    let e = k.4 (omega arith) 0 in
    number_whole _ _ k.3.0 (omega (arith, e)) (omega (arith, e)) _ c.number-x.ensures (omega arith)

pub returns-else-x-list : goal.returns-else-x-list
returns-else-x-list c =
    let k = c.in_ok-get.ensures.lookup in
    let e = k.4 (omega arith) 0 in
    number_cut _ _ k.3.0 (omega (arith, e)) (omega (arith, e)) _ c.number-x.ensures (omega arith)

pub returns-in_default : goal.returns-in_default
returns-in_default c =
    let k = c.in_ok-get.ensures.lookup in
    let e = k.4 (omega arith) 0 in
    whole_under _ _ k.3.0 (omega (arith, e))

pub returns-in_default-2 : goal.returns-in_default-2
returns-in_default-2 c =
    let k = c.in_ok-get.ensures.lookup in
    let e = k.4 (omega arith) 0 in
    whole_over _ _ k.3.0 (omega (arith, e))
