use Rattle.session_log.proofs.Scanning.{chosen, kept}
use Rattle.session_log.proofs.inner.marked.Goals as goal

pub returns-then-k-r : goal.returns-then-k-r
returns-then-k-r c = search chosen

pub returns : goal.returns
returns c = search kept
