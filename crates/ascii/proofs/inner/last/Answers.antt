use Rattle.characters.proofs.Runs.{runs_none, runs_last}
use Rattle.ascii.proofs.inner.last.Goals as goal

pub returns-then-text-lt8 : goal.returns-then-text-lt8
returns-then-text-lt8 c = search runs_none

pub returns-then-at-from : goal.returns-then-at-from
returns-then-at-from c = search runs_none

pub returns-then-not-are_ascii : goal.returns-then-not-are_ascii
returns-then-not-are_ascii c = search runs_none

pub returns : goal.returns
returns c = search runs_last
