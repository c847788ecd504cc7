use Rattle.layout.proofs.inner.count.Goals as goal

pub returns : goal.returns
returns c = (cc, c.word.ensures.1)
