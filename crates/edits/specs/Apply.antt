-- What a sequence does to a text: document 01, "Playing an edit".
use Rattle.std.specs.Prelude.{List, [], ◌∷◌, ◌++◌, take, drop}
use Rattle.edits.specs.Op.{Op, retain, insert, delete, takes}

module _ {C : Type 0} where
  -- "Retain copies, delete skips, insert writes."
  abbrev pub writes : Op C → List C → List C
  writes (retain n) t = take n t
  writes (insert s) t = s
  writes (delete n) t = []

  abbrev pub apply : List (Op C) → List C → List C
  apply [] t = []
  apply (o ∷ s) t = writes o t ++ apply s (drop (takes o) t)
