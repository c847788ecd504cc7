use Rattle.playback_steps.proofs.Stages.{as_long, advance_other, advance_short, advance_on}
use Rattle.playback_steps.proofs.inner.advance.Goals as goal

pub slice_bounds-apply_into-end-2 : goal.slice_bounds-apply_into-end-2
slice_bounds-apply_into-end-2 c = search as_long

pub returns-then-b-m : goal.returns-then-b-m
returns-then-b-m c = search advance_other

pub slice_bounds-store_text-end-2 : goal.slice_bounds-store_text-end-2
slice_bounds-store_text-end-2 c = search as_long

pub returns-then-not-store_text : goal.returns-then-not-store_text
returns-then-not-store_text c = search advance_short

pub returns : goal.returns
returns c = search advance_on
