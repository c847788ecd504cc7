use Rattle.std.proofs.Common.{arith}
use Rattle.characters.proofs.Runs.{runs_none, runs_front}
use Rattle.ascii.proofs.inner.short_run.Goals as goal

pub returns-then-text-ge8 : goal.returns-then-text-ge8
returns-then-text-ge8 c = runs_none _ _ (omega arith)

pub returns : goal.returns
returns c = rw c.run.ensures (runs_front c.args.text.now)
