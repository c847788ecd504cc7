use Rattle.emitter.proofs.inner.write_header.Goals as goal

pub returns : goal.returns
returns c = cc
