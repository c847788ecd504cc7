use native.Mathlib.Omega.{arith}
use Rattle.emitter.proofs.Adding.{under_more}
use Rattle.steps.proofs.Siding.{under_part}
use Rattle.steps.proofs.Stepping.{meets_insert}
use borrow.Author.Rules.{rules}
use Rattle.ties.proofs.inner.emit_equal.Goals as goal

pub push_without_text-d-requires : goal.push_without_text-d-requires
push_without_text-d-requires c = (c.requires.0.slots_left, c.requires.0.room_left, c.requires.0.stands_y, c.requires.1, c.requires.3, c.requires.5, under_more _ _ _ (omega arith) c.requires.0.under_e)

pub push_without_text-h-requires : goal.push_without_text-h-requires
push_without_text-h-requires c = (c.requires.0.slots_right, c.requires.0.room_right, c.requires.0.stands_x, c.requires.1, c.requires.2, c.requires.4, under_more _ _ _ (omega arith) c.requires.0.under_f)

pub retain-d-requires : goal.retain-d-requires
retain-d-requires c = search (under_part, rules, c.requires, c.push_without_text-d.ensures)

pub retain-h-requires : goal.retain-h-requires
retain-h-requires c = search (under_part, rules, c.requires, c.push_without_text-h.ensures)

pub returns : goal.returns
returns c = meets_insert _ _ _ _ _ _ _ _ c.requires.0.stands_x c.requires.0.stands_y c.requires.6 c.requires.7 c.requires.2 c.requires.3 _ _ _ c.push_without_text-d.ensures c.retain-d.ensures _ _ _ c.push_without_text-h.ensures c.retain-h.ensures
