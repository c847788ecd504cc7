use mathlib.Core.Path.{refl}
use Rattle.playback_steps.proofs.Stages.{stage_start, stage_end, stage_at, stage_fault, stage_base, stage_room, stage_short, stage_next}
use borrow.Author.Rules.{rules}
use Rattle.playback_steps.proofs.inner.play_revisions.Goals as goal

pub loop-k-init : goal.loop-k-init
loop-k-init c = (search stage_start, refl, refl)

pub slice_bounds-rec-count : goal.slice_bounds-rec-count
slice_bounds-rec-count c = search stage_at

pub slice_bounds-rec-start : goal.slice_bounds-rec-start
slice_bounds-rec-start c = search (stage_at, rules)

pub advance-requires : goal.advance-requires
advance-requires c = (search stage_fault, search rules, search rules, search stage_base)

pub returns-in_err-len : goal.returns-in_err-len
returns-in_err-len c = rw c.from_residual.ensures (search (stage_short, c.in_err-len.was))

pub size-at-requires : goal.size-at-requires
size-at-requires c = search stage_fault

pub overflow_add-at : goal.overflow_add-at
overflow_add-at c = search (stage_room, rules)

pub loop-k-preserved : goal.loop-k-preserved
loop-k-preserved c = (search (stage_next, c.in_ok-len.was), search rules, search rules)

pub returns : goal.returns
returns c = search stage_end
