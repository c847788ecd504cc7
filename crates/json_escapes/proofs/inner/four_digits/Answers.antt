use native.Mathlib.Omega.{arith}
use mathlib.Core.Path.{ap, ◌∙◌}
use Rattle.json_escapes.specs.InnerEscapes.{hex_or_none}
use Rattle.json_escapes.proofs.Digits.{no_digits, digits_end, digits_bad, digits_more, all_digits}
use Rattle.json_escapes.proofs.inner.four_digits.Goals as goal

pub loop-k-init : goal.loop-k-init
loop-k-init c = search no_digits

pub returns-in_err-b : goal.returns-in_err-b
returns-in_err-b c = rw c.from_residual.ensures (digits_end _ _ _ _ c.loop-k.invariant (omega arith) c.in_err-b.ensures.lookup.3)

pub returns-in_err-hex : goal.returns-in_err-hex
returns-in_err-hex c =
    let k = c.in_ok-b.ensures.lookup in
    rw c.from_residual-in_err-hex.ensures
    (digits_bad _ _ _ _ c.loop-k.invariant (omega arith) k.3.0 (c.in_err-hex.ensures ∙ ap hex_or_none (k.4 (omega arith) 0)))

pub loop-k-preserved : goal.loop-k-preserved
loop-k-preserved c =
    let k = c.in_ok-b.ensures.lookup in
    rw c.from.ensures (digits_more _ _ _ _ c.loop-k.invariant (omega arith) k.3.0 (c.in_ok-hex.ensures ∙ ap hex_or_none (k.4 (omega arith) 0)))

pub returns : goal.returns
returns c = search all_digits
