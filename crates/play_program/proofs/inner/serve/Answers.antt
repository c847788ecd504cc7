use Rattle.playback_steps.proofs.Stages.{as_long}
use Rattle.play_program.proofs.inner.serve.Goals as goal

pub slice_bounds-write_all-end : goal.slice_bounds-write_all-end
slice_bounds-write_all-end c = search as_long
