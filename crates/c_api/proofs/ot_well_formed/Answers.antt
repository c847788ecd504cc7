use Rattle.c_api.proofs.ot_well_formed.Goals as goal

pub returns : goal.returns
returns c = cc
