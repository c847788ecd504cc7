use native.Mathlib.Omega.{arith}
use Rattle.steps.proofs.Looping.{both_start, left_under, right_under, both_more, went_less}
use Rattle.rebase.proofs.Stages.{marked_run, passed}
use Rattle.rebase.proofs.Moving.{moving_start, moving_small, moving_place, moving_end, moving_record, moving_agree, moving_stop, moving_fit, moving_ready, moving_short, moving_next}
use borrow.Author.Rules.{rules}
use Rattle.rebase.proofs.inner.rebase.Goals as goal

pub run-init : goal.run-init
run-init c = (search moving_start, search rules, search rules, search rules, search rules)

pub slice_bounds-rec-count : goal.slice_bounds-rec-count
slice_bounds-rec-count c = search (moving_place, rules)

pub slice_bounds-rec-start : goal.slice_bounds-rec-start
slice_bounds-rec-start c = search (moving_place, rules)

pub op_count-na-requires : goal.op_count-na-requires
op_count-na-requires c = c.run.invariant.0.holds.fault

pub op_count-nb-requires : goal.op_count-nb-requires
op_count-nb-requires c = moving_record _ _ _ _ _ _ _ _ _ c.run.invariant.0 c.if-left-eq0.false

pub begin_both-b-requires : goal.begin_both-b-requires
begin_both-b-requires c = record {
  count_a = c.op_count-na.ensures.0;
  few_a = c.op_count-na.ensures.1;
  count_b = c.op_count-nb.ensures.0;
  few_b = c.op_count-nb.ensures.1;
  passed_a = c.run.invariant.0.holds.fault;
  passed_b = moving_record _ _ _ _ _ _ _ _ _ c.run.invariant.0 c.if-left-eq0.false;
}

pub loop-next-init : goal.loop-next-init
loop-next-init c = (both_start _ _ _ _ _ _ _ c.run.invariant.0.holds.fault (moving_record _ _ _ _ _ _ _ _ _ c.run.invariant.0 c.if-left-eq0.false) c.begin_both-b.ensures, search rules, search rules)

pub finish_both-c-requires : goal.finish_both-c-requires
finish_both-c-requires c = (c.requires.7, left_under _ _ _ _ _ _ c.loop-next.b _ _ c.loop-next.invariant.0, right_under _ _ _ _ _ _ c.loop-next.b _ _ c.loop-next.invariant.0)

pub sizes-p-requires : goal.sizes-p-requires
sizes-p-requires c = let d = marked_run _ _ _ _ _ c.loop-next.b _ _ c.loop-next.invariant.0 c.loop-next.invariant.1 c.loop-next.invariant.2 _ c.both_go_on.ensures c.if-not-both_go_on.true-raw c.finish_both-c.result _ _ c.finish_both-c.ensures (omega (arith, c.next-1.given, c.finish_both-c)) (omega (arith, c.side-1.given, c.finish_both-c)) in
    (c.run.invariant.0.holds.fault, moving_record _ _ _ _ _ _ _ _ _ c.run.invariant.0 c.if-left-eq0.false, moving_agree _ _ _ _ _ _ _ _ _ c.run.invariant.0 c.if-left-eq0.false, d.counted)

pub have_places-requires : goal.have_places-requires
have_places-requires c = c.sizes-p.ensures.left_small

pub step-b-requires : goal.step-b-requires
step-b-requires c = (
  record {
    count_a = c.op_count-na.ensures.0;
    few_a = c.op_count-na.ensures.1;
    count_b = c.op_count-nb.ensures.0;
    few_b = c.op_count-nb.ensures.1;
    passed_a = c.run.invariant.0.holds.fault;
    passed_b = moving_record _ _ _ _ _ _ _ _ _ c.run.invariant.0 c.if-left-eq0.false;
  },
  record {
    slots_left = c.requires.7;
    slots_right = c.requires.7;
    under_e = left_under _ _ _ _ _ _ c.loop-next.b _ _ c.loop-next.invariant.0;
    under_f = right_under _ _ _ _ _ _ c.loop-next.b _ _ c.loop-next.invariant.0;
    stands_x = c.loop-next.invariant.0.left.stands_x;
    stands_y = c.loop-next.invariant.0.left.stands_y;
    room_left = omega (arith, c.loop-next.invariant.1, c.run.invariant.2, c.requires.5);
    room_right = omega (arith, c.loop-next.invariant.2, c.run.invariant.3, c.requires.6);
  },
  passed _ _ c.both_go_on.ensures c.if-not-both_go_on.false-raw,
)

pub loop-next-smaller : goal.loop-next-smaller
loop-next-smaller c = search went_less

pub loop-next-preserved : goal.loop-next-preserved
loop-next-preserved c = (search both_more, search rules, search rules)

pub replace_edit-spot-requires : goal.replace_edit-spot-requires
replace_edit-spot-requires c = let d = marked_run _ _ _ _ _ c.loop-next.b _ _ c.loop-next.invariant.0 c.loop-next.invariant.1 c.loop-next.invariant.2 _ c.both_go_on.ensures c.if-not-both_go_on.true-raw c.finish_both-c.result _ _ c.finish_both-c.ensures (omega (arith, c.next-1.given, c.finish_both-c)) (omega (arith, c.side-1.given, c.finish_both-c)) in (
  c.requires.7,
  c.op_count-ne.ensures.0,
  c.op_count-ne.ensures.1,
  c.op_count-nb.ensures.0,
  c.op_count-nb.ensures.1,
  c.requires.3,
  moving_record _ _ _ _ _ _ _ _ _ c.run.invariant.0 c.if-left-eq0.false,
  c.run.invariant.0.same_text,
  omega (arith, c.next-1.given, c.finish_both-c, c.loop-next.invariant.1, c.run.invariant.2, c.requires.5),
  omega (arith, c.side-1.given, c.finish_both-c, c.loop-next.invariant.2, c.run.invariant.3, c.requires.6),
  moving_ready _ _ _ _ _ _ _ _ _ c.run.invariant.0 c.if-left-eq0.false _ c.sizes-p.ensures _ c.keep_limits.ensures c.if-not-keep_limits.false-raw _ _ _ c.have_places.ensures c.if-not-have_places.false-raw _ _ _ d,
  omega (arith, c.run.invariant.0.place),
  moving_small _ _ _ _ _ _ _ _ _ c.run.invariant.0 c.requires.1,
)

pub overflow_sub-left : goal.overflow_sub-left
overflow_sub-left c = omega (arith, c.if-left-eq0.false)

pub run-smaller : goal.run-smaller
run-smaller c = omega (arith, c.if-left-eq0.false)

pub run-preserved : goal.run-preserved
run-preserved c = (
  moving_next _ _ _ _ _ _ _ _ _ c.run.invariant.0 c.if-left-eq0.false (moving_fit _ _ _ _ _ _ _ _ _ c.run.invariant.0 c.if-left-eq0.false _ c.sizes-p.ensures _ c.keep_limits.ensures c.if-not-keep_limits.false-raw) c.run.invariant.4 _ _ _ c.replace_edit-spot.ensures,
  omega (arith, c.run.invariant.1, c.cur-1.given, c.replace_edit-spot),
  omega (arith, c.next-1.given, c.finish_both-c, c.loop-next.invariant.1, c.run.invariant.2),
  omega (arith, c.side-1.given, c.finish_both-c, c.loop-next.invariant.2, c.run.invariant.3),
  omega (arith, c.run.invariant.4, c.parts-1.given, c.replace_edit-spot),
)

pub returns-then-left-eq0 : goal.returns-then-left-eq0
returns-then-left-eq0 c = search moving_end

pub shape_of-cur-then-not-keep_limits : goal.shape_of-cur-then-not-keep_limits
shape_of-cur-then-not-keep_limits c = c.run.invariant.1

pub shape_of-next-then-not-keep_limits : goal.shape_of-next-then-not-keep_limits
shape_of-next-then-not-keep_limits c = omega (arith, c.next-1.given, c.finish_both-c, c.loop-next.invariant.1, c.run.invariant.2)

pub shape_of-side-then-not-keep_limits : goal.shape_of-side-then-not-keep_limits
shape_of-side-then-not-keep_limits c = omega (arith, c.side-1.given, c.finish_both-c, c.loop-next.invariant.2, c.run.invariant.3)

pub shape_of-parts-then-not-keep_limits : goal.shape_of-parts-then-not-keep_limits
shape_of-parts-then-not-keep_limits c = c.run.invariant.4

pub returns-then-not-keep_limits : goal.returns-then-not-keep_limits
returns-then-not-keep_limits c = moving_stop _ _ _ _ _ _ _ _ _ c.run.invariant.0 c.if-left-eq0.false _ c.sizes-p.ensures _ c.keep_limits.ensures _ _ c.if-not-keep_limits.true-raw

pub shape_of-cur-then-not-have_places : goal.shape_of-cur-then-not-have_places
shape_of-cur-then-not-have_places c = c.run.invariant.1

pub shape_of-next-then-not-have_places : goal.shape_of-next-then-not-have_places
shape_of-next-then-not-have_places c = omega (arith, c.next-1.given, c.finish_both-c, c.loop-next.invariant.1, c.run.invariant.2)

pub shape_of-side-then-not-have_places : goal.shape_of-side-then-not-have_places
shape_of-side-then-not-have_places c = omega (arith, c.side-1.given, c.finish_both-c, c.loop-next.invariant.2, c.run.invariant.3)

pub shape_of-parts-then-not-have_places : goal.shape_of-parts-then-not-have_places
shape_of-parts-then-not-have_places c = c.run.invariant.4

pub returns-then-not-have_places : goal.returns-then-not-have_places
returns-then-not-have_places c = moving_short _ _ _ _ _ _ _ _ _ c.run.invariant.0 c.if-left-eq0.false _ c.sizes-p.ensures _ c.keep_limits.ensures c.if-not-keep_limits.false-raw _ _ _ c.have_places.ensures c.if-not-have_places.true-raw _ (omega (arith, c.run.invariant.1))
