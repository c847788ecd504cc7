use native.Mathlib.Omega.{arith}
use mathlib.Core.Path.{sym, ◌∙◌}
use Rattle.json_read.proofs.Listing.{list_cut, comma_follows, end_follows, nothing_follows}
use Rattle.json_read.proofs.inner.after_value.Goals as goal

pub returns-in_err-get : goal.returns-in_err-get
returns-in_err-get c = rw c.from_residual.ensures (list_cut _ _ _ c.after_spaces-i.ensures c.in_err-get.ensures.lookup.3)

pub returns-in-44 : goal.returns-in-44
returns-in-44 c =
    let k = c.in_ok-get.ensures.lookup in
    comma_follows _ _ _ c.after_spaces-i.ensures k.3.0 (sym (k.4 (omega arith) 0) ∙ c.in-44.is) _ c.after_spaces.ensures

pub returns-in-93 : goal.returns-in-93
returns-in-93 c =
    let k = c.in_ok-get.ensures.lookup in
    end_follows _ _ _ c.after_spaces-i.ensures k.3.0 (sym (k.4 (omega arith) 0) ∙ c.in-93.is)

pub returns-in_default : goal.returns-in_default
returns-in_default c =
    let k = c.in_ok-get.ensures.lookup in
    let e = k.4 (omega arith) 0 in
    nothing_follows _ _ _ c.after_spaces-i.ensures k.3.0 (λ q. omega (arith, e)) (λ q. omega (arith, e))
