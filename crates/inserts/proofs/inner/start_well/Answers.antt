use Rattle.std.specs.Prelude.{◌+◌, ◌-◌}
use mathlib.Core.Path.{sym, ◌∙◌}
use native.Mathlib.Omega.{arith}
use Rattle.inserts.proofs.Texts.{starting, starting_other, starting_fits, starting_room, starting_ill, starting_insert, began, began_behind}
use borrow.Author.Rules.{rules}
use Rattle.inserts.proofs.inner.start_well.Goals as goal
use Rattle.inserts.proofs.inner.start_well.Goals.{then-kind-eq-INSERT+else-continues, else-kind-eq-INSERT}

pub loop-k-init : goal.loop-k-init
loop-k-init c = (search rules, began _ _ _ _ c.requires.0 (search starting))

pub bounds-rec-at : goal.bounds-rec-at
bounds-rec-at c = starting_room c.args.rec.now c.args.n c.loop-k.k c.loop-k.at c.kind-kind.result (omega arith) c.requires.0 (c.loop-k.invariant.1.here (omega arith)) c.kind-kind.ensures c.count-count.result c.count-count.ensures.0 c.if-kind-eq-INSERT.true

pub returns-then-continues : goal.returns-then-continues
returns-then-continues c = starting_ill c.args.rec.now c.args.n c.loop-k.k c.loop-k.at c.kind-kind.result (omega arith) c.requires.0 (c.loop-k.invariant.1.here (omega arith)) c.kind-kind.ensures c.count-count.result c.count-count.ensures.0 c.if-kind-eq-INSERT.true c.continues.result c.continues.ensures c.if-continues.true

pub overflow_add-at : goal.overflow_add-at
overflow_add-at c = let h = starting_fits c.args.rec.now c.args.n c.loop-k.k c.loop-k.at c.kind-kind.result (omega arith) c.requires.0 (c.loop-k.invariant.1.here (omega arith)) c.kind-kind.ensures c.count-count.result c.count-count.ensures.0 c.if-kind-eq-INSERT.true in omega arith

pub overflow_add-k-in-loop-k : goal.overflow_add-k-in-loop-k
overflow_add-k-in-loop-k c = elim c.if-kind-eq-INSERT.branch [ then-kind-eq-INSERT+else-continues w ↦ omega arith | else-kind-eq-INSERT w ↦ omega arith ]

pub loop-k-smaller : goal.loop-k-smaller
loop-k-smaller c = elim c.if-kind-eq-INSERT.branch [ then-kind-eq-INSERT+else-continues w ↦ omega arith | else-kind-eq-INSERT w ↦ omega arith ]

pub loop-k-preserved : goal.loop-k-preserved
loop-k-preserved c = let r = c.args.rec.now in
    let n = c.args.n in
    let pre = c.requires in
    let now = c.loop-k in
    let here = now.invariant.1.here (omega arith) in
    let kind = c.kind-kind in
    let pick = c.pick-behind in
    elim c.if-kind-eq-INSERT.branch [ then-kind-eq-INSERT+else-continues w ↦ (omega arith, rw (w.at-is, w.k-is) (began_behind r n now.k (now.at + w.count-count.result) pre.2 pre.0 (sym kind.ensures ∙ w.if-kind-eq-INSERT.true) (starting_insert r n now.k now.at kind.result (omega arith) pre.0 here kind.ensures w.count-count.result w.count-count.ensures.0 w.if-kind-eq-INSERT.true w.continues.result w.continues.ensures w.if-continues.false) c.args.ordered pick.result pre.1 pick.ensures.0)) | else-kind-eq-INSERT w ↦ (omega arith, rw (w.at-is, w.k-is) (began r n (now.k + 1) now.at pre.0 (starting_other r n now.k now.at kind.result (omega arith) pre.0 here kind.ensures w.if-kind-eq-INSERT.false))) ]

pub returns : goal.returns
returns c = c.loop-k.invariant.1.past (search rules)
