-- Document 01, "Compose".
use Rattle.std.specs.Prelude.{List, [], ◌∷◌}
use Rattle.edits.specs.Op.{Op, retain, insert, delete}
use Rattle.edits.specs.Build.{build}
use Rattle.edits.specs.Align.{Step, one, two, both, Turn, first, second, together, steps, each}

module _ {C : Type 0} where
  -- "A delete of the first is taken before an insert of the second, each whole in a step of its own. Otherwise one step uses
  -- up the lesser of the two character counts on both sides"
  abbrev pub compose_turn : Op C → Op C → Turn
  compose_turn (delete n) p = first
  compose_turn (retain n) (insert t) = second
  compose_turn (insert s) (insert t) = second
  compose_turn (retain n) (retain m) = together
  compose_turn (retain n) (delete m) = together
  compose_turn (insert s) (retain m) = together
  compose_turn (insert s) (delete m) = together

  -- of as many characters on both sides: "retain with retain gives a retain, retain with delete a delete, insert with retain
  -- an insert, insert with delete nothing" (the others don't meet)
  abbrev pub onto : Op C → Op C → List (Op C)
  onto (retain n) p = p ∷ []
  onto (insert s) (retain m) = insert s ∷ []
  onto (insert s) (delete m) = []
  onto (insert s) (insert t) = []
  onto (delete n) p = []

  abbrev pub made : Step C → List (Op C)
  made (one o) = o ∷ []
  made (two p) = p ∷ []
  made (both o p) = onto o p

  -- "the builders taking what each step gives"
  unfoldable pub compose : List (Op C) → List (Op C) → List (Op C)
  unfolding steps build
  compose a b = build (each made (steps compose_turn a b))
