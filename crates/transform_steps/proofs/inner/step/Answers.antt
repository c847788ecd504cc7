use native.Mathlib.Omega.{arith}
use borrow.Author.Tests.{ne_eqb}
use Rattle.steps.proofs.Feeding.{fed_left, fed_right}
use Rattle.steps.proofs.Siding.{chosen_both, chosen_ended, chosen_first, chosen_other, chosen_second}
use Rattle.steps.proofs.Stepping.{alone_first, alone_second, both_together, ended_live, other_live}
use Rattle.transform_steps.proofs.inner.step.Goals as goal

pub inserts-requires : goal.inserts-requires
inserts-requires c = (c.requires.0, c.requires.1, c.if-x-eq-AT_INSERT.true, c.if-y-eq-AT_INSERT.true)

pub returns-then-y-eq-AT_INSERT : goal.returns-then-y-eq-AT_INSERT
returns-then-y-eq-AT_INSERT c = c.inserts.ensures

pub insert_first-requires : goal.insert_first-requires
insert_first-requires c = fed_left c.requires.0 c.requires.1 (omega (arith, c.if-x-eq-AT_INSERT.true))

pub returns-then-x-eq-AT_INSERT : goal.returns-then-x-eq-AT_INSERT
returns-then-x-eq-AT_INSERT c = alone_first _ _ _ _ _ _ _ c.requires.1.stands_x c.requires.1.stands_y _ _ (chosen_first _ _ _ _ c.if-x-eq-AT_INSERT.true c.if-y-eq-AT_INSERT.false) c.insert_first.ensures

pub insert_second-requires : goal.insert_second-requires
insert_second-requires c = fed_right c.requires.0 c.requires.1 (omega (arith, c.if-y-eq-AT_INSERT-2.true))

pub returns-then-y-eq-AT_INSERT-2 : goal.returns-then-y-eq-AT_INSERT-2
returns-then-y-eq-AT_INSERT-2 c = alone_second _ _ _ _ _ _ _ c.requires.1.stands_x c.requires.1.stands_y _ _ (chosen_second _ _ _ _ c.if-x-eq-AT_INSERT.false c.if-y-eq-AT_INSERT-2.true) c.insert_second.ensures

pub step_second-requires : goal.step_second-requires
step_second-requires c = fed_right c.requires.0 c.requires.1 (ended_live c.args.a.now c.args.b.now c.args.s.x c.args.s.y c.requires.2 c.if-x-eq-AT_END.true)

pub returns-then-x-eq-AT_END : goal.returns-then-x-eq-AT_END
returns-then-x-eq-AT_END c = alone_second _ _ _ _ _ _ _ c.requires.1.stands_x c.requires.1.stands_y _ _ (chosen_ended _ _ _ _ c.requires.2 c.if-x-eq-AT_END.true) c.step_second.ensures

pub step_first-requires : goal.step_first-requires
step_first-requires c = fed_left c.requires.0 c.requires.1 (other_live c.args.s.x c.if-x-eq-AT_END.false)

pub returns-then-y-eq-AT_END : goal.returns-then-y-eq-AT_END
returns-then-y-eq-AT_END c = alone_first _ _ _ _ _ _ _ c.requires.1.stands_x c.requires.1.stands_y _ _ (chosen_other _ _ _ _ c.if-x-eq-AT_END.false c.if-y-eq-AT_END.true) c.step_first.ensures

pub step_both-requires : goal.step_both-requires
step_both-requires c = (c.requires.0, c.requires.1, chosen_both _ _ _ _ c.if-x-eq-AT_END.false c.if-y-eq-AT_END.false c.if-x-eq-AT_INSERT.false c.if-y-eq-AT_INSERT-2.false, ne_eqb _ _ c.if-y-eq-AT_INSERT-2.false)

pub returns : goal.returns
returns c = both_together _ _ _ _ _ _ _ c.requires.1.stands_x c.requires.1.stands_y _ _ _ (chosen_both _ _ _ _ c.if-x-eq-AT_END.false c.if-y-eq-AT_END.false c.if-x-eq-AT_INSERT.false c.if-y-eq-AT_INSERT-2.false) c.step_both.ensures
