use borrow.Author.Rules.{rules}
use Rattle.c_api.proofs.ot_play.Goals as goal

pub returns : goal.returns
returns c = ((cc), search rules)
