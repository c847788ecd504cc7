use Rattle.characters.specs.InnerPassed.{Passed}
use Rattle.std.specs.Prelude.{◌+◌, ◌-◌}
use native.Mathlib.Omega.{arith}
use Rattle.characters.proofs.Passed.{passed_one, lead_bad, lead_few, not_due, passed_all}
use Rattle.characters.proofs.Passed.{past_due}
use borrow.Author.Rules.{rules}
use Rattle.utf8.proofs.finish.Goals as goal

pub loop-i-preserved-then-b-lt128 : goal.loop-i-preserved-then-b-lt128
loop-i-preserved-then-b-lt128 c = search passed_one

pub returns-in_default : goal.returns-in_default
returns-in_default c = search lead_bad

pub due-requires : goal.due-requires
due-requires c = (search rules, search lead_few)

pub returns-then-not-due : goal.returns-then-not-due
returns-then-not-due c = search not_due

pub overflow_add-i-else-b-lt128 : goal.overflow_add-i-else-b-lt128
overflow_add-i-else-b-lt128 c = let h : Passed c.args.text.now (c.loop-i.i + 1 + c.in-Some.more) (c.loop-i.conts + c.in-Some.more) = search past_due in omega arith

pub overflow_add-conts : goal.overflow_add-conts
overflow_add-conts c = let h : Passed c.args.text.now (c.loop-i.i + 1 + c.in-Some.more) (c.loop-i.conts + c.in-Some.more) = search past_due in omega arith

pub loop-i-smaller : goal.loop-i-smaller
loop-i-smaller c = let h : Passed c.args.text.now (c.loop-i.i + 1 + c.in-Some.more) (c.loop-i.conts + c.in-Some.more) = search past_due in omega arith

pub loop-i-preserved : goal.loop-i-preserved
loop-i-preserved c = search past_due

pub returns : goal.returns
returns c = search passed_all
