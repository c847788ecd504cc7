use Rattle.extend.proofs.inner.finish.Goals as goal

pub returns : goal.returns
returns c = cc
