use Rattle.answers.proofs.Delivered.{deliver_short, deliver_whole}
use Rattle.answers.proofs.inner.deliver.Goals as goal

pub returns-then-out-bytes : goal.returns-then-out-bytes
returns-then-out-bytes c = search deliver_short

pub returns : goal.returns
returns c = search deliver_whole
