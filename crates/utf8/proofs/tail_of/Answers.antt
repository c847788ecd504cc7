use Rattle.std.specs.Prelude.{Some}
use Rattle.std.proofs.Common.{◌≡◌, ◌+◌, ◌-◌, suc, refl, take, drop, false, arith}
use Rattle.characters.specs.Chars.{is_continuation}
use Rattle.characters.specs.Form.{whole}
use Rattle.characters.proofs.Steps.{due_none, first_out, first_in, only}
use Rattle.utf8.proofs.tail_of.Goals as goal

pub returns-then-this-eq0 : goal.returns-then-this-eq0
returns-then-this-eq0 g c = search due_none

pub returns-then-not-in_range : goal.returns-then-not-in_range
returns-then-not-in_range g c = let a = c.args in
    let e : suc (g.row.MORE - 1) ≡ g.row.MORE = omega arith in
    rw e at (first_out a.text.now a.at a.lo a.hi _ c.in_range.ensures (g.row.MORE - 1) c.if-not-in_range.true (omega arith))

pub returns-then-this-eq1 : goal.returns-then-this-eq1
returns-then-this-eq1 g c = let a = c.args in let t = a.text.now in
    rw c.if-this-eq1.true (first_in t a.at a.lo a.hi _ c.in_range.ensures 0 c.if-not-in_range.false (omega arith) (due_none t (a.at + 1) 0x80 0xBF 0 refl))

pub returns-then-not-is_cont : goal.returns-then-not-is_cont
unfolding is_continuation
returns-then-not-is_cont g c = let a = c.args in let t = a.text.now in
    let e : suc (g.row.MORE - 1) ≡ g.row.MORE = omega arith in
    let f : suc (g.row.MORE - 2) ≡ g.row.MORE - 1 = omega arith in
    let y : false ≡ whole (take (g.row.MORE - 1) (drop (a.at + 1) t)) (Some (g.row.MORE - 1, 0x80, 0xBF)) = rw f at (first_out t (a.at + 1) 0x80 0xBF _ c.is_cont.ensures (g.row.MORE - 2) c.if-not-is_cont.true (omega arith)) in
    rw e at (first_in t a.at a.lo a.hi _ c.in_range.ensures (g.row.MORE - 1) c.if-not-in_range.false (omega arith) y)

pub returns-then-this-eq2 : goal.returns-then-this-eq2
unfolding is_continuation
returns-then-this-eq2 g c = let a = c.args in let t = a.text.now in
    rw c.if-this-eq2.true (first_in t a.at a.lo a.hi _ c.in_range.ensures 1 c.if-not-in_range.false (omega arith)
    (first_in t (a.at + 1) 0x80 0xBF _ c.is_cont.ensures 0 c.if-not-is_cont.false (omega arith) (due_none t (a.at + 1 + 1) 0x80 0xBF 0 refl)))

pub returns : goal.returns
unfolding is_continuation
returns g c = let a = c.args in let t = a.text.now in
    let three : g.row.MORE ≡ 3 = omega arith in
    let e : a.at + 1 + 1 ≡ a.at + 2 = omega arith in
    rw three (first_in t a.at a.lo a.hi _ c.in_range.ensures 2 c.if-not-in_range.false (omega arith)
    (first_in t (a.at + 1) 0x80 0xBF _ c.is_cont.ensures 1 c.if-not-is_cont.false (omega arith) (rw e (only t (a.at + 2) 0x80 0xBF _ c.is_cont-2.ensures (omega arith)))))
