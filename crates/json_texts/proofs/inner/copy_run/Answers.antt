use Rattle.json_texts.proofs.Moves.{ready_then, moved_then}
use Rattle.json_texts.proofs.inner.copy_run.Goals as goal

pub copy_singles-requires : goal.copy_singles-requires
copy_singles-requires c = search ready_then

pub returns : goal.returns
returns c = search moved_then
