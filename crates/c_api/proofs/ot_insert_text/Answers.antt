use Rattle.std.specs.Prelude.{◌≤◌, length}
use native.Mathlib.Omega.{arith}
use Rattle.packing.proofs.Packing.{part_none, part_passed, part_index, part_small, part_is}
use Rattle.record.specs.Layout.{max_size}
use borrow.Author.Rules.{rules}
use Rattle.c_api.proofs.ot_insert_text.Goals as goal

pub returns-then-size-eq0 : goal.returns-then-size-eq0
returns-then-size-eq0 c = search part_none

pub op_count-n-requires : goal.op_count-n-requires
op_count-n-requires c = search part_passed

pub text_from-from-requires : goal.text_from-from-requires
text_from-from-requires c = (search part_passed, search rules, search part_index)

pub overflow_mul-result : goal.overflow_mul-result
overflow_mul-result c = let h : length c.insert_text-text.result.now ≤ max_size = search part_small in omega arith

pub overflow_add-result : goal.overflow_add-result
overflow_add-result c = let h : length c.insert_text-text.result.now ≤ max_size = search part_small in omega arith

pub returns : goal.returns
returns c = search part_is
