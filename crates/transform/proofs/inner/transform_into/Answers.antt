use native.Mathlib.Omega.{arith}
use Rattle.steps.proofs.Turning.{live_is_same}
use Rattle.steps.proofs.Looping.{both_start, left_under, right_under, both_more, went_less}
use Rattle.steps.proofs.Marking.{both_marked}
use borrow.Author.Rules.{rules}
use Rattle.transform.proofs.inner.transform_into.Goals as goal

pub loop-stage_a-init : goal.loop-stage_a-init
loop-stage_a-init c = (search both_start, search rules, search rules)

pub step-s-requires : goal.step-s-requires
step-s-requires c = (
  c.requires.0,
  record {
    slots_left = c.requires.1;
    slots_right = c.requires.1;
    under_e = search left_under;
    under_f = search right_under;
    stands_x = search rules;
    stands_y = search rules;
    room_left = omega (arith, c.loop-stage_a.invariant.1, c.requires.2);
    room_right = omega (arith, c.loop-stage_a.invariant.2, c.requires.3);
  },
  search live_is_same,
)

pub loop-stage_a-smaller : goal.loop-stage_a-smaller
loop-stage_a-smaller c = search went_less

pub loop-stage_a-preserved : goal.loop-stage_a-preserved
loop-stage_a-preserved c = (search both_more, search rules, search rules)

pub finish-e-requires : goal.finish-e-requires
finish-e-requires c = search (left_under, rules)

pub finish-f-requires : goal.finish-f-requires
finish-f-requires c = search (right_under, rules)

pub returns : goal.returns
returns c = search both_marked
