use native.Mathlib.Omega.{arith}
use Rattle.counterparts.proofs.Passing.{edit_inside, record_inside, goes_on}
use Rattle.counterparts.proofs.inner.replace_edit.Goals as goal

pub place_with_text-requires : goal.place_with_text-requires
place_with_text-requires c = (c.requires.0, omega (arith, c.requires.2), c.requires.10.few_left, omega (arith, c.requires.8, c.requires.9), edit_inside _ _ _ _ _ _ c.requires.1 c.requires.3 c.requires.5 c.requires.6 c.requires.7 _ _ c.requires.8 c.requires.9 _ c.requires.10, c.requires.10.sized.left_small)

pub store_counterpart-requires : goal.store_counterpart-requires
store_counterpart-requires c = (omega (arith, c.size-2.ensures), c.requires.0, omega (arith, c.requires.4), c.requires.10.few_right, omega (arith, c.requires.9), record_inside _ _ _ _ _ _ c.requires.1 c.requires.3 c.requires.5 c.requires.6 c.requires.7 _ _ c.requires.8 c.requires.9 _ c.requires.10, c.requires.10.sized.right_small)

pub returns : goal.returns
returns c = goes_on _ _ _ _ _ _ c.requires.1 c.requires.3 c.requires.5 c.requires.6 c.requires.7 _ _ c.requires.8 c.requires.9 _ c.requires.10 _ _ _ c.size.ensures.0 c.size-2.ensures _ c.place_with_text.ensures _ _ c.store_counterpart.ensures
