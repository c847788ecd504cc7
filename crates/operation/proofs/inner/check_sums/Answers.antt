use Rattle.std.specs.Prelude.{◌+◌}
use native.Mathlib.Omega.{arith}
use Rattle.operation.proofs.Answers.{check_3, check_4, check_5, check_5', check_0, totals_header, Agreed, agreed}
use Rattle.operation.proofs.inner.check_sums.Goals as goal

pub returns-in_default : goal.returns-in_default
returns-in_default c = search check_3

pub returns-then-not-t : goal.returns-then-not-t
returns-then-not-t c = search check_4

pub base-requires : goal.base-requires
base-requires c = search totals_header

pub returns-then-t-base : goal.returns-then-t-base
returns-then-t-base c = search check_5

pub overflow_add-target : goal.overflow_add-target
overflow_add-target c = let so_far : Agreed c.args.rec.now c.args.t.ops c.args.t.text (c.args.t.kept + c.in-Some.chars) = search agreed in let h = so_far.small in omega arith

pub target-requires : goal.target-requires
target-requires c = search totals_header

pub returns-then-target : goal.returns-then-target
returns-then-target c = let so_far : Agreed c.args.rec.now c.args.t.ops c.args.t.text (c.args.t.kept + c.in-Some.chars) = search agreed in check_5' _ _ _ _ so_far c.target.result c.target.ensures.0 c.if-target.true

pub text_start-requires : goal.text_start-requires
text_start-requires c = let so_far : Agreed c.args.rec.now c.args.t.ops c.args.t.text (c.args.t.kept + c.in-Some.chars) = search agreed in let h = so_far.few in omega arith

pub overflow_add-result : goal.overflow_add-result
overflow_add-result c = let so_far : Agreed c.args.rec.now c.args.t.ops c.args.t.text (c.args.t.kept + c.in-Some.chars) = search agreed in let h = so_far in omega (arith, h.few, h.short, c.text_start.ensures)

pub returns : goal.returns
returns c = let so_far : Agreed c.args.rec.now c.args.t.ops c.args.t.text (c.args.t.kept + c.in-Some.chars) = search agreed in check_0 _ _ _ _ so_far c.target.result c.target.ensures.0 c.text_start.result c.text_start.ensures c.if-target.false
