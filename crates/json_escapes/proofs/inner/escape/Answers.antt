use native.Mathlib.Omega.{arith}
use mathlib.Core.Path.{refl, sym, ap, ◌∙◌}
use Rattle.json_escapes.specs.InnerEscapes.{short_or_none}
use Rattle.json_escapes.proofs.Escaping.{escape_end, escape_number, letter_bad, letter_good}
use Rattle.json_escapes.proofs.inner.escape.Goals as goal

pub returns-in_err-b : goal.returns-in_err-b
returns-in_err-b c = rw c.from_residual.ensures (escape_end c.args.list.now c.args.at c.in_err-b.ensures.lookup.3)

pub returns-then-b-eq-LETTER_U : goal.returns-then-b-eq-LETTER_U
returns-then-b-eq-LETTER_U c =
    let k = c.in_ok-b.ensures.lookup in
    escape_number _ _ k.3.0 (sym (k.4 (omega arith) 0) ∙ c.if-b-eq-LETTER_U.true) _ c.by_number.ensures

pub returns-in_err-code : goal.returns-in_err-code
returns-in_err-code c =
    let k = c.in_ok-b.ensures.lookup in
    let e = k.4 (omega arith) 0 in
    rw c.from_residual-in_err-code.ensures
    (letter_bad c.args.list.now c.args.at k.3.0 (λ q. c.if-b-eq-LETTER_U.false (e ∙ q)) (c.in_err-code.ensures ∙ ap short_or_none e))

pub returns : goal.returns
returns c =
    let k = c.in_ok-b.ensures.lookup in
    let e = k.4 (omega arith) 0 in
    letter_good _ _ k.3.0 (λ q. c.if-b-eq-LETTER_U.false (e ∙ q)) (c.in_ok-code.ensures ∙ ap short_or_none e) _ refl refl
