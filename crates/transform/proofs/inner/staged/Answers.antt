use Rattle.std.proofs.lemmas.Result.{err_from_is_err_and}
use native.Mathlib.Omega.{arith}
use Rattle.steps.proofs.Marking.{text_room_left, text_room_right, few_places_left, few_places_right, text_placed}
use Rattle.transform.proofs.Answering.{transforms_refused, transforms_written}
use Rattle.transform.proofs.inner.staged.Goals as goal

pub transform_into-c-requires : goal.transform_into-c-requires
transform_into-c-requires c = (c.requires.0, omega (arith, c.requires.1), omega (arith, c.requires.3), omega (arith, c.requires.4))

pub sizes-p-requires : goal.sizes-p-requires
sizes-p-requires c = (c.requires.0.passed_a, c.requires.0.passed_b, c.requires.5, c.transform_into-c.ensures.counted)

pub limits_then_room-requires : goal.limits_then_room-requires
limits_then_room-requires c = let z = c.sizes-p.ensures in
    (z.left_small, z.right_small)

pub place_with_text-requires : goal.place_with_text-requires
place_with_text-requires c = let p = c.sizes-p.result in
    let z = c.sizes-p.ensures in
    (omega (arith, c.requires.1), omega (arith, c.requires.0.few_a), few_places_left _ _ c.requires.0.passed_a c.requires.0.passed_b _ _ c.requires.0.count_a c.requires.0.count_b p z _ c.requires.2 _ _ _ c.limits_then_room.ensures _ _ c.in_ok-k.was, omega (arith, c.requires.3), text_room_left _ _ c.requires.0.passed_a c.requires.0.passed_b _ _ c.requires.0.count_a c.requires.0.count_b p z, z.left_small)

pub place_with_text-requires-2 : goal.place_with_text-requires-2
place_with_text-requires-2 c = let p = c.sizes-p.result in
    let z = c.sizes-p.ensures in
    (omega (arith, c.requires.1), omega (arith, c.requires.0.few_b), few_places_right _ _ c.requires.0.passed_a c.requires.0.passed_b _ _ c.requires.0.count_a c.requires.0.count_b p z _ c.requires.2 _ _ _ c.limits_then_room.ensures _ _ c.in_ok-k.was, omega (arith, c.requires.4), text_room_right _ _ c.requires.0.passed_a c.requires.0.passed_b _ _ c.requires.0.count_a c.requires.0.count_b p z, z.right_small)

pub returns-in_err-k : goal.returns-in_err-k
returns-in_err-k c = let p = err_from_is_err_and c.from_residual.result c.from_residual.ensures.1 in rw (p.1, p.2) (transforms_refused _ _ _ _ c.requires.0.passed_a c.requires.0.passed_b c.requires.5 c.sizes-p.result c.sizes-p.ensures _ c.limits_then_room.ensures _ c.in_err-k.was)

pub returns : goal.returns
returns c = let p = c.sizes-p.result in
    let z = c.sizes-p.ensures in
    let fl = few_places_left _ _ c.requires.0.passed_a c.requires.0.passed_b _ _ c.requires.0.count_a c.requires.0.count_b p z _ c.requires.2 _ _ _ c.limits_then_room.ensures _ _ c.in_ok-k.was in
    let fr = few_places_right _ _ c.requires.0.passed_a c.requires.0.passed_b _ _ c.requires.0.count_a c.requires.0.count_b p z _ c.requires.2 _ _ _ c.limits_then_room.ensures _ _ c.in_ok-k.was in
    let w = text_placed _ _ c.requires.0.passed_a c.requires.0.passed_b _ _ c.requires.0.count_a c.requires.0.count_b p z _ _ _ _ c.transform_into-c.ensures fl fr (omega (arith, c.requires.3, c.stage_a-1)) (omega (arith, c.requires.4, c.stage_b-1)) _ _ _ _ c.place_with_text.ensures c.place_with_text-2.ensures in
    transforms_written _ _ _ _ c.requires.0.passed_a c.requires.0.passed_b c.requires.5 p z _ c.limits_then_room.ensures _ _ _ _ c.in_ok-k.was w
