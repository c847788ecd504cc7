use Rattle.c_api.proofs.ot_step.Goals as goal

pub returns : goal.returns
returns c = cc
