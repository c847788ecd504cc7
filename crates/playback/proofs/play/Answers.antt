use Rattle.characters.proofs.Passed.{form_holds}
use Rattle.playback_steps.proofs.Stages.{stands_inside, stands_size}
use Rattle.playback.proofs.Answers.{play_refused, play_3, play_6, play_8, play_short, play_answer, play_out, play_reads, play_count, play_agrees}
use Rattle.playback.proofs.play.Goals as goal

pub returns-in_default : goal.returns-in_default
returns-in_default c = play_refused _ _ _ _ _ 3 (search play_3)

pub returns-in_default-read : goal.returns-in_default-read
returns-in_default-read c = play_refused _ _ _ _ _ 6 (search play_6)

pub returns-then-chars-scan : goal.returns-then-chars-scan
returns-then-chars-scan c = play_refused _ _ _ _ _ 8 (search play_8)

pub play_first-requires : goal.play_first-requires
play_first-requires c = (search play_reads, search play_count, search form_holds, search play_agrees)

pub returns-in_default-play_first : goal.returns-in_default-play_first
returns-in_default-play_first c = play_refused _ _ _ _ _ 10 (search play_short)

pub slice_bounds-deliver-end : goal.slice_bounds-deliver-end
slice_bounds-deliver-end c = search stands_inside

pub slice_bounds-deliver-end-2 : goal.slice_bounds-deliver-end-2
slice_bounds-deliver-end-2 c = search stands_size

pub returns : goal.returns
returns c = (search play_answer, search play_out)
