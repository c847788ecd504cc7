use Rattle.json_texts.proofs.Moves.{first_byte, escape_ready, escape_well, escape_then, byte_room, byte_ready, byte_then, byte_same}
use borrow.Author.Rules.{rules}
use Rattle.json_texts.proofs.inner.copy_part.Goals as goal

pub bounds-list-at : goal.bounds-list-at
bounds-list-at c = search first_byte

pub copy_escape-requires : goal.copy_escape-requires
copy_escape-requires c = search (escape_ready, escape_well)

pub returns-then-b-eq-BACKSLASH : goal.returns-then-b-eq-BACKSLASH
returns-then-b-eq-BACKSLASH c = (search escape_then, search rules)

pub bounds-out-to : goal.bounds-out-to
bounds-out-to c = search byte_room

pub copy_run-requires : goal.copy_run-requires
copy_run-requires c = search byte_ready

pub shape_of-out : goal.shape_of-out
shape_of-out c = search byte_same

pub returns : goal.returns
returns c = (search byte_then, search rules)
