use Rattle.playback_steps.proofs.Stages.{stands_inside, stands_size}
use Rattle.undo.proofs.Answers.{back_short, back_before, back_undoes}
use Rattle.undo.proofs.take_back.Goals as goal

pub returns-in_default : goal.returns-in_default
returns-in_default c = search back_short

pub slice_bounds-choose_buffer-end : goal.slice_bounds-choose_buffer-end
slice_bounds-choose_buffer-end c = search stands_inside

pub slice_bounds-choose_buffer-end-2 : goal.slice_bounds-choose_buffer-end-2
slice_bounds-choose_buffer-end-2 c = search stands_size

pub choose_buffer-requires : goal.choose_buffer-requires
choose_buffer-requires c = search back_before

pub returns : goal.returns
returns c = search back_undoes
