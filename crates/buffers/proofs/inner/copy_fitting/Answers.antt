use Rattle.buffers.proofs.Over.{copy_out, copy_in}
use Rattle.buffers.proofs.inner.copy_fitting.Goals as goal

pub returns-then-out-at : goal.returns-then-out-at
returns-then-out-at g c = search copy_out

pub returns-then-this-ne0 : goal.returns-then-this-ne0
returns-then-this-ne0 g c = search copy_in

pub returns-else-this-ne0 : goal.returns-else-this-ne0
returns-else-this-ne0 g c = search copy_in
