use Rattle.reader.proofs.Fronts.{rest_all, rest_some}
use Rattle.reader.proofs.inner.rest.Goals as goal

pub returns-then-k-left : goal.returns-then-k-left
returns-then-k-left c = search rest_all

pub returns : goal.returns
returns c = search rest_some
