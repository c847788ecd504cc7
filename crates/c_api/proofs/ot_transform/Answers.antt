use Rattle.c_api.proofs.Bounds.{transform_fits}
use borrow.Author.Rules.{rules}
use Rattle.c_api.proofs.ot_transform.Goals as goal

pub pair-requires : goal.pair-requires
pair-requires c = search transform_fits

pub returns : goal.returns
returns c = ((cc), search rules, search rules)
