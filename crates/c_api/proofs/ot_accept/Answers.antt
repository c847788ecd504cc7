use Rattle.c_api.proofs.Bounds.{accept_fits}
use borrow.Author.Rules.{rules}
use Rattle.c_api.proofs.ot_accept.Goals as goal

pub pair-requires : goal.pair-requires
pair-requires c = search accept_fits

pub returns : goal.returns
returns c = ((cc), search rules, search rules)
