use Rattle.characters.proofs.Window.{window_end, window_room, window_back}
use Rattle.blocks.proofs.inner.back.Goals as goal

pub returns-then-n-eq0 : goal.returns-then-n-eq0
returns-then-n-eq0 c = search window_end

pub overflow_sub-result : goal.overflow_sub-result
overflow_sub-result c = search window_room

pub returns : goal.returns
returns c = search window_back
