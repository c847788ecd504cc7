use Rattle.std.specs.Prelude.{◌≡◌, ◌+◌, ◌-◌, ◌<◌, ◌≤◌, length}
use native.Mathlib.Omega.{arith}
use Rattle.inserts.proofs.Texts.{reached_start, reached_other, reached_room, reached_insert}
use borrow.Author.Rules.{rules}
use Rattle.inserts.proofs.inner.text_at.Goals as goal
use Rattle.inserts.proofs.inner.text_at.Goals.{then-kind-eq-INSERT, else-kind-eq-INSERT}

pub loop-i-init : goal.loop-i-init
loop-i-init c = search reached_start

pub overflow_add-at : goal.overflow_add-at
overflow_add-at c = let b : c.loop-i.i < c.args.n = omega arith in
    let h : c.loop-i.at + c.count-at.result ≤ length c.args.rec.now = search reached_room in
    search rules

pub loop-i-preserved : goal.loop-i-preserved
loop-i-preserved c = let b : c.loop-i.i < c.args.n = omega arith in
    elim c.if-kind-eq-INSERT.branch [ then-kind-eq-INSERT w ↦ rw w.at-is (search reached_insert) | else-kind-eq-INSERT w ↦ rw w.at-is (search reached_other) ]

pub returns : goal.returns
returns c = let e : c.loop-i.i ≡ c.args.k = omega arith in rw (← e) c.loop-i.invariant
