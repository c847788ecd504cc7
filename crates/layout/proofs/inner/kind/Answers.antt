use Rattle.layout.proofs.inner.kind.Goals as goal

pub returns : goal.returns
returns c = cc
