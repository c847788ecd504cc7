use Rattle.json_edits.proofs.Placing.{place_room, placed}
use borrow.Author.Rules.{rules}
use Rattle.json_edits.proofs.place.Goals as goal

pub copy_texts-requires : goal.copy_texts-requires
copy_texts-requires c = (search rules, search place_room)

pub returns : goal.returns
returns c = search placed
