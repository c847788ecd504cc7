use native.Mathlib.Omega.{arith}
use Rattle.steps.proofs.Siding.{uncut_x, uncut_y, both_some}
use Rattle.steps.proofs.Stepping.{together_both}
use Rattle.transform_steps.proofs.inner.step_both.Goals as goal

pub emit_both-p-requires : goal.emit_both-p-requires
emit_both-p-requires c = let q = c.lesser-k.ensures in
    (c.requires.1, both_some _ _ _ _ c.requires.1.stands_x c.requires.1.stands_y c.requires.2 _ q, omega (arith, q), omega (arith, q), uncut_x _ _ _ _ c.requires.1.stands_x c.requires.1.stands_y c.requires.2 _ q, uncut_y _ _ _ _ c.requires.1.stands_x c.requires.1.stands_y c.requires.2 _ q, c.requires.2, c.requires.3)

pub rest-g-requires : goal.rest-g-requires
rest-g-requires c = let q = c.lesser-k.ensures in
    (c.requires.0.count_a, c.requires.1.stands_x, omega (arith, q), uncut_x _ _ _ _ c.requires.1.stands_x c.requires.1.stands_y c.requires.2 _ q)

pub rest-h-requires : goal.rest-h-requires
rest-h-requires c = let q = c.lesser-k.ensures in
    (c.requires.0.count_b, c.requires.1.stands_y, omega (arith, q), uncut_y _ _ _ _ c.requires.1.stands_x c.requires.1.stands_y c.requires.2 _ q)

pub returns : goal.returns
returns c = let q = c.lesser-k.ensures in
    together_both _ _ _ _ _ _ _ _ _ _ _ _ _ c.emit_both-p.ensures q c.rest-g.ensures c.rest-h.ensures
