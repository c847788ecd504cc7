use native.Mathlib.Omega.{arith}
use mathlib.Core.Path.{sym, ◌∙◌}
use Rattle.json_escapes.proofs.Scanning.{text_none, plain_ends, string_read, string_bad, escape_bad, text_escape, escape_less}
use Rattle.json_escapes.proofs.inner.string.Goals as goal

pub loop-x-init : goal.loop-x-init
loop-x-init c = search text_none

pub returns-in_err-get : goal.returns-in_err-get
returns-in_err-get c = rw c.from_residual.ensures (plain_ends _ _ _ _ _ c.loop-x.invariant _ _ c.plain-s.ensures c.in_err-get.ensures.lookup.3)

pub returns-in-34 : goal.returns-in-34
returns-in-34 c =
    let k = c.in_ok-get.ensures.lookup in
    string_read _ _ _ _ _ c.loop-x.invariant _ _ c.plain-s.ensures k.3.0 (sym (k.4 (omega arith) 0) ∙ c.in-34.is)

pub returns-in_default : goal.returns-in_default
returns-in_default c =
    let k = c.in_ok-get.ensures.lookup in
    let e = k.4 (omega arith) 0 in
    string_bad _ _ _ _ _ c.loop-x.invariant _ _ c.plain-s.ensures k.3.0 (λ q. omega (arith, e)) (λ q. omega (arith, e))

pub returns-in_err-x-in-92 : goal.returns-in_err-x-in-92
returns-in_err-x-in-92 c =
    let k = c.in_ok-get.ensures.lookup in
    rw c.from_residual-in_err-x-in-92.ensures
    (escape_bad _ _ _ _ _ c.loop-x.invariant _ _ c.plain-s.ensures k.3.0 (sym (k.4 (omega arith) 0) ∙ c.in-92.is) c.in_err-x-in-92.ensures)

pub loop-x-smaller : goal.loop-x-smaller
loop-x-smaller c =
    let k = c.in_ok-get.ensures.lookup in
    escape_less _ _ _ _ _ c.loop-x.invariant _ _ c.plain-s.ensures k.3.0 (sym (k.4 (omega arith) 0) ∙ c.in-92.is) _ c.in_ok-x-in-92.ensures

pub loop-x-preserved : goal.loop-x-preserved
loop-x-preserved c =
    let k = c.in_ok-get.ensures.lookup in
    text_escape _ _ _ _ _ c.loop-x.invariant _ _ c.plain-s.ensures k.3.0 (sym (k.4 (omega arith) 0) ∙ c.in-92.is) _ c.in_ok-x-in-92.ensures _ c.width.ensures.0
