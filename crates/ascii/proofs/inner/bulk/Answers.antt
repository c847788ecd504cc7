use Rattle.characters.proofs.Runs.{runs_join}
use Rattle.ascii.proofs.inner.bulk.Goals as goal

pub returns : goal.returns
returns c = search runs_join
