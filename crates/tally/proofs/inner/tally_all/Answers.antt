use native.Mathlib.Omega.{arith}
use Rattle.tally.proofs.Parting.{parts_under, tally_parts}
use borrow.Author.Rules.{rules}
use Rattle.tally.proofs.inner.tally_all.Goals as goal

pub overflow_sub-others : goal.overflow_sub-others
overflow_sub-others c = let h = parts_under _ _ _ _ (search rules) c.all_counts-all.ensures c.sum_parts-p.ensures in omega arith

pub overflow_sub-others-2 : goal.overflow_sub-others-2
overflow_sub-others-2 c = let h = parts_under _ _ _ _ (search rules) c.all_counts-all.ensures c.sum_parts-p.ensures in omega arith

pub overflow_sub-others-3 : goal.overflow_sub-others-3
overflow_sub-others-3 c = let h = parts_under _ _ _ _ (search rules) c.all_counts-all.ensures c.sum_parts-p.ensures in omega arith

pub returns : goal.returns
returns c = tally_parts _ _ _ _ (search rules) c.all_counts-all.ensures c.sum_parts-p.ensures _ c.clashes.ensures.0 c.clashes.ensures.1
