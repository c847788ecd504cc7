use native.Mathlib.Omega.{arith}
use borrow.Author.Tests.{eqb-false}
use Rattle.emitter.proofs.Adding.{under_more}
use Rattle.steps.proofs.Stepping.{meets_retain, meets_first, meets_second, meets_delete}
use Rattle.transform_steps.proofs.inner.emit_both.Goals as goal

pub push_without_text-d-requires : goal.push_without_text-d-requires
push_without_text-d-requires c = (c.requires.0.slots_left, c.requires.0.room_left, c.requires.0.stands_x, c.requires.1, c.requires.2, c.requires.4, under_more _ _ _ (omega arith) c.requires.0.under_e)

pub push_without_text-h-requires : goal.push_without_text-h-requires
push_without_text-h-requires c = (c.requires.0.slots_right, c.requires.0.room_right, c.requires.0.stands_y, c.requires.1, c.requires.3, c.requires.5, under_more _ _ _ (omega arith) c.requires.0.under_f)

pub returns-then-x-eq-AT_RETAIN : goal.returns-then-x-eq-AT_RETAIN
returns-then-x-eq-AT_RETAIN c = search meets_retain

pub returns-then-y-eq-AT_RETAIN : goal.returns-then-y-eq-AT_RETAIN
returns-then-y-eq-AT_RETAIN c = meets_first _ _ _ _ _ _ _ _ c.requires.0.stands_x c.requires.0.stands_y c.requires.6 (eqb-false _ _ c.requires.7) c.if-y-eq-AT_RETAIN.true c.if-x-eq-AT_RETAIN.false _ _ c.push_without_text-d.ensures

pub push_without_text-h-requires-then-x-eq-AT_RETAIN-2 : goal.push_without_text-h-requires-then-x-eq-AT_RETAIN-2
push_without_text-h-requires-then-x-eq-AT_RETAIN-2 c = (c.requires.0.slots_right, c.requires.0.room_right, c.requires.0.stands_y, c.requires.1, c.requires.3, c.requires.5, under_more _ _ _ (omega arith) c.requires.0.under_f)

pub returns-then-x-eq-AT_RETAIN-2 : goal.returns-then-x-eq-AT_RETAIN-2
returns-then-x-eq-AT_RETAIN-2 c = meets_second _ _ _ _ _ _ _ _ c.requires.0.stands_x c.requires.0.stands_y c.requires.6 (eqb-false _ _ c.requires.7) c.if-y-eq-AT_RETAIN.false c.if-x-eq-AT_RETAIN-2.true _ _ c.push_without_text-h-then-x-eq-AT_RETAIN-2.ensures

pub returns : goal.returns
returns c = meets_delete _ _ _ _ _ _ _ _ c.requires.0.stands_x c.requires.0.stands_y c.requires.6 (eqb-false _ _ c.requires.7) c.if-y-eq-AT_RETAIN.false c.if-x-eq-AT_RETAIN-2.false
