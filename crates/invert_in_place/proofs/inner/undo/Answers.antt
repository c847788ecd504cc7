use Rattle.invert_in_place.proofs.Placing.{chars_room, takes_rest, undoes_retain, undoes_delete}
use Rattle.record.proofs.Cases.{Numbers}
use borrow.Author.Rules.{rules}
use Rattle.invert_in_place.proofs.inner.undo.Goals as goal

pub end_of-to-requires : goal.end_of-to-requires
end_of-to-requires c = (search rules, search rules, search rules, search rules, search (chars_room, Numbers), search (takes_rest, Numbers))

pub returns-in-Retain : goal.returns-in-Retain
returns-in-Retain c = search (undoes_retain, Numbers)

pub returns : goal.returns
returns c = search (undoes_delete, Numbers)
