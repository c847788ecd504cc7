use Rattle.buffers.proofs.Over.{put_in, put_out}
use Rattle.buffers.proofs.inner.put.Goals as goal

pub returns-then-at-out : goal.returns-then-at-out
returns-then-at-out c = search put_in

pub returns-else-at-out : goal.returns-else-at-out
returns-else-at-out c = search put_out
