use Rattle.c_api.proofs.Bounds.{undo_fits}
use borrow.Author.Rules.{rules}
use Rattle.c_api.proofs.ot_undo.Goals as goal

pub pair-requires : goal.pair-requires
pair-requires c = search undo_fits

pub returns : goal.returns
returns c = ((cc), search rules, search rules)
