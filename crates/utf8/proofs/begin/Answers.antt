use Rattle.characters.specs.InnerPassed.{Passed}
use Rattle.std.specs.Prelude.{◌+◌, ◌-◌, ◌<◌, ◌≤◌, length}
use native.Mathlib.Omega.{arith}
use Rattle.characters.proofs.Passed.{passed_one, lead_few, past_due}
use borrow.Author.Rules.{rules}
use Rattle.utf8.proofs.begin.Goals as goal

pub loop-i-preserved-then-b-lt128 : goal.loop-i-preserved-then-b-lt128
loop-i-preserved-then-b-lt128 c = let h : c.loop-i.i < length c.args.text.now = omega arith in search passed_one

pub tail_ok-requires : goal.tail_ok-requires
tail_ok-requires c = let h : c.loop-i.i < length c.args.text.now = omega arith in
    let few : c.in-Some.more ≤ 3 = search lead_few in
    (omega arith, few)

pub returns-then-not-tail_ok : goal.returns-then-not-tail_ok
returns-then-not-tail_ok c = search rules

pub overflow_add-i-else-b-lt128 : goal.overflow_add-i-else-b-lt128
overflow_add-i-else-b-lt128 c = let lt : c.loop-i.i < length c.args.text.now = omega arith in let h : Passed c.args.text.now (c.loop-i.i + 1 + c.in-Some.more) (c.loop-i.conts + c.in-Some.more) = search past_due in omega arith

pub overflow_add-conts : goal.overflow_add-conts
overflow_add-conts c = let lt : c.loop-i.i < length c.args.text.now = omega arith in let h : Passed c.args.text.now (c.loop-i.i + 1 + c.in-Some.more) (c.loop-i.conts + c.in-Some.more) = search past_due in omega arith

pub loop-i-smaller : goal.loop-i-smaller
loop-i-smaller c = let lt : c.loop-i.i < length c.args.text.now = omega arith in let h : Passed c.args.text.now (c.loop-i.i + 1 + c.in-Some.more) (c.loop-i.conts + c.in-Some.more) = search past_due in omega arith

pub loop-i-preserved : goal.loop-i-preserved
loop-i-preserved c = let lt : c.loop-i.i < length c.args.text.now = omega arith in search past_due
