use Rattle.reader.proofs.Fronts.{place_start, first_ahead}
use borrow.Author.Rules.{rules}
use Rattle.reader.proofs.inner.first_front.Goals as goal

pub load-requires : goal.load-requires
load-requires c = (search rules, search place_start)

pub returns : goal.returns
returns c = (c.load.ensures.stands, search first_ahead)
