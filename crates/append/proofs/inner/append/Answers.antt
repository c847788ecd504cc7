use Rattle.append.proofs.Appending.{appends}
use Rattle.append.proofs.inner.append.Goals as goal

pub returns : goal.returns
returns c = let start = c in
    appends _ start.args.s _ _ start.requires.0 start.requires.1 start.requires.2 start.requires.4 start.requires.5 _ _ c.copy.ensures c.put16.ensures
