-- Document 01, "Invert", on a text of base characters (document 02, M-101).
use Rattle.std.specs.Prelude.{List, [], ◌∷◌, length, take, drop}
use Rattle.edits.specs.Op.{Op, retain, insert, delete, takes}
use Rattle.edits.specs.Build.{build}

module _ {C : Type 0} where
  -- "retain is repeated; insert becomes a delete of as many characters; delete becomes an insert of the characters taken from
  -- the text"
  abbrev pub undo : Op C → List C → Op C
  undo (retain n) t = retain n
  undo (insert s) t = delete (length s)
  undo (delete n) t = insert (take n t)

  -- each operation takes its characters off the text
  abbrev pub undo_all : List (Op C) → List C → List (Op C)
  undo_all [] t = []
  undo_all (o ∷ s) t = undo o t ∷ undo_all s (drop (takes o) t)

  -- "For each record in order, through the builders"
  unfoldable pub invert : List (Op C) → List C → List (Op C)
  unfolding build
  invert s t = build (undo_all s t)
