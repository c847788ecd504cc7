use native.Mathlib.Omega.{arith}
use Rattle.steps.proofs.Siding.{both_some, equal_least, uncut_x, uncut_y}
use Rattle.steps.proofs.Stepping.{together_both}
use borrow.Author.Rules.{rules}
use Rattle.ties.proofs.inner.equal_inserts.Goals as goal

pub emit_equal-p-requires : goal.emit_equal-p-requires
emit_equal-p-requires c = let q = equal_least _ _ _ _ c.requires.1.stands_x c.requires.1.stands_y c.requires.2 c.requires.3 c.requires.4 in
    (c.requires.1, both_some _ _ _ _ c.requires.1.stands_x c.requires.1.stands_y c.requires.2 _ q, search rules, omega (arith, q), uncut_x _ _ _ _ c.requires.1.stands_x c.requires.1.stands_y c.requires.2 _ q, uncut_y _ _ _ _ c.requires.1.stands_x c.requires.1.stands_y c.requires.2 _ q, c.requires.2, c.requires.4)

pub rest-g-requires : goal.rest-g-requires
rest-g-requires c = let q = equal_least _ _ _ _ c.requires.1.stands_x c.requires.1.stands_y c.requires.2 c.requires.3 c.requires.4 in
    (c.requires.0.count_a, c.requires.1.stands_x, search rules, uncut_x _ _ _ _ c.requires.1.stands_x c.requires.1.stands_y c.requires.2 _ q)

pub rest-h-requires : goal.rest-h-requires
rest-h-requires c = let q = equal_least _ _ _ _ c.requires.1.stands_x c.requires.1.stands_y c.requires.2 c.requires.3 c.requires.4 in
    (c.requires.0.count_b, c.requires.1.stands_y, omega (arith, q), uncut_y _ _ _ _ c.requires.1.stands_x c.requires.1.stands_y c.requires.2 _ q)

pub returns : goal.returns
returns c = let q = equal_least _ _ _ _ c.requires.1.stands_x c.requires.1.stands_y c.requires.2 c.requires.3 c.requires.4 in
    together_both _ _ _ _ _ _ _ _ _ _ _ _ _ c.emit_equal-p.ensures q c.rest-g.ensures c.rest-h.ensures
