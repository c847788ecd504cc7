use native.Mathlib.Omega.{arith}
use Rattle.emitter.proofs.Adding.{under_more}
use Rattle.steps.proofs.Siding.{under_part}
use Rattle.steps.proofs.Stepping.{meets_insert, meets_retain, meets_first, meets_second, meets_delete}
use borrow.Author.Rules.{rules}
use Rattle.rebase_steps.proofs.inner.emit_both.Goals as goal

pub push_without_text-h-requires : goal.push_without_text-h-requires
push_without_text-h-requires c = (c.requires.0.slots_left, c.requires.0.room_right, c.requires.0.stands_x, c.requires.1, c.requires.2, c.requires.4, under_more _ _ _ (omega arith) c.requires.0.under_f)

pub retain-d-requires : goal.retain-d-requires
retain-d-requires c = search (under_part, rules, c.requires, c.push_without_text-d.ensures)

pub retain-h-requires : goal.retain-h-requires
retain-h-requires c = search (under_part, rules, c.requires, c.push_without_text-h.ensures)

pub returns-then-y-eq-AT_INSERT : goal.returns-then-y-eq-AT_INSERT
returns-then-y-eq-AT_INSERT c = meets_insert _ _ _ _ _ _ _ _ c.requires.0.stands_x c.requires.0.stands_y c.requires.6 c.if-y-eq-AT_INSERT.true c.requires.2 c.requires.3 _ _ _ c.push_without_text-d.ensures c.retain-d.ensures _ _ _ c.push_without_text-h.ensures c.retain-h.ensures

pub push_without_text-h-requires-then-x-eq-AT_RETAIN : goal.push_without_text-h-requires-then-x-eq-AT_RETAIN
push_without_text-h-requires-then-x-eq-AT_RETAIN c = (c.requires.0.slots_left, c.requires.0.room_right, c.requires.0.stands_y, c.requires.1, c.requires.3, c.requires.5, under_more _ _ _ (omega arith) c.requires.0.under_f)

pub returns-then-x-eq-AT_RETAIN : goal.returns-then-x-eq-AT_RETAIN
returns-then-x-eq-AT_RETAIN c = meets_retain _ _ _ _ _ _ _ _ c.requires.0.stands_x c.requires.0.stands_y c.requires.6 c.if-y-eq-AT_RETAIN.true c.if-x-eq-AT_RETAIN.true _ _ c.push_without_text-d-then-y-eq-AT_RETAIN.ensures _ _ c.push_without_text-h-then-x-eq-AT_RETAIN.ensures

pub returns-then-y-eq-AT_RETAIN : goal.returns-then-y-eq-AT_RETAIN
returns-then-y-eq-AT_RETAIN c = search meets_first

pub push_without_text-h-requires-then-x-eq-AT_RETAIN-2 : goal.push_without_text-h-requires-then-x-eq-AT_RETAIN-2
push_without_text-h-requires-then-x-eq-AT_RETAIN-2 c = (c.requires.0.slots_left, c.requires.0.room_right, c.requires.0.stands_y, c.requires.1, c.requires.3, c.requires.5, under_more _ _ _ (omega arith) c.requires.0.under_f)

pub returns-then-x-eq-AT_RETAIN-2 : goal.returns-then-x-eq-AT_RETAIN-2
returns-then-x-eq-AT_RETAIN-2 c = search meets_second

pub returns : goal.returns
returns c = search meets_delete
