use native.Mathlib.Omega.{arith}
use mathlib.Core.Path.{sym, ◌∙◌}
use Rattle.json_read.proofs.Opening.{no_bracket_cut, no_bracket, bracket_cut, brackets, first_value}
use Rattle.json_read.proofs.inner.begins_with.Goals as goal

pub returns-in_err-get : goal.returns-in_err-get
returns-in_err-get c = rw c.from_residual.ensures (no_bracket_cut _ _ c.after_spaces-i.ensures c.in_err-get.ensures.lookup.3)

pub returns-then-branch-ne-BEGIN_ARRAY : goal.returns-then-branch-ne-BEGIN_ARRAY
returns-then-branch-ne-BEGIN_ARRAY c =
    let k = c.in_ok-get.ensures.lookup in
    no_bracket _ _ c.after_spaces-i.ensures k.3.0 (λ q. c.if-branch-ne-BEGIN_ARRAY.true (k.4 (omega arith) 0 ∙ q))

pub returns-in_err-get-2 : goal.returns-in_err-get-2
returns-in_err-get-2 c =
    let k = c.in_ok-get.ensures.lookup in
    rw c.from_residual-in_err-get-2.ensures
    (bracket_cut _ _ c.after_spaces-i.ensures k.3.0 (sym (k.4 (omega arith) 0) ∙ c.if-branch-ne-BEGIN_ARRAY.false) _ c.after_spaces-to.ensures c.in_err-get-2.ensures.lookup.3)

pub returns-then-branch-eq-END_ARRAY : goal.returns-then-branch-eq-END_ARRAY
returns-then-branch-eq-END_ARRAY c =
    let k = c.in_ok-get.ensures.lookup in
    let m = c.in_ok-get-2.ensures.lookup in
    brackets _ _ c.after_spaces-i.ensures k.3.0 (sym (k.4 (omega arith) 0) ∙ c.if-branch-ne-BEGIN_ARRAY.false) _ c.after_spaces-to.ensures m.3.0
    (sym (m.4 (omega arith) 0) ∙ c.if-branch-eq-END_ARRAY.true)

pub returns : goal.returns
returns c =
    let k = c.in_ok-get.ensures.lookup in
    let m = c.in_ok-get-2.ensures.lookup in
    first_value _ _ c.after_spaces-i.ensures k.3.0 (sym (k.4 (omega arith) 0) ∙ c.if-branch-ne-BEGIN_ARRAY.false) _ c.after_spaces-to.ensures m.3.0
    (λ q. c.if-branch-eq-END_ARRAY.false (m.4 (omega arith) 0 ∙ q))
