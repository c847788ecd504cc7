use native.Mathlib.Omega.{arith}
use mathlib.Core.Path.{sym, ◌∙◌}
use Rattle.json_values.proofs.Valued.{value_end, value_minus, other_byte}
use Rattle.json_values.proofs.inner.scan_value.Goals as goal

pub returns-in_err-get : goal.returns-in_err-get
returns-in_err-get c = rw c.from_residual.ensures (value_end _ _ c.in_err-get.ensures.lookup.3)

pub quoted-requires : goal.quoted-requires
quoted-requires c =
    let k = c.in_ok-get.ensures.lookup in
    (k.3.0, sym (k.4 (omega arith) 0) ∙ c.in-34.is)

pub returns-in-45 : goal.returns-in-45
returns-in-45 c =
    let k = c.in_ok-get.ensures.lookup in
    value_minus _ _ k.3.0 (sym (k.4 (omega arith) 0) ∙ c.in-45.is) _ c.negative.ensures

pub positive-requires : goal.positive-requires
positive-requires c =
    let k = c.in_ok-get.ensures.lookup in
    let e = k.4 (omega arith) 0 in
    (k.3.0, other_byte _ _ k.3.0 c.requires.1 (λ q. omega (arith, e)) (λ q. omega (arith, e)))
