use borrow.Author.Tests.{ne_eqb}
use Rattle.json_texts.proofs.Moves.{moved_none, more_bytes, ready_then, moved_then, moved_mark}
use Rattle.json_texts.proofs.inner.copy_string.Goals as goal

pub loop-i-init : goal.loop-i-init
loop-i-init c = search moved_none

pub bounds-list-i : goal.bounds-list-i
bounds-list-i c = search more_bytes

pub copy_part-c-requires : goal.copy_part-c-requires
copy_part-c-requires c = search (ready_then, ne_eqb)

pub loop-i-preserved : goal.loop-i-preserved
loop-i-preserved c = search moved_then

pub returns : goal.returns
returns c = search moved_mark
