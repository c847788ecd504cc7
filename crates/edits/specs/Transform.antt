-- Document 01, "Transform". How texts are ordered, and the rule for equal inserts (`tie`), are parameters.
use Rattle.std.specs.Prelude.{List, [], ◌∷◌, length}
use Rattle.std.specs.declared.cmp.Ordering.{Ordering}
use Rattle.std.specs.declared.cmp.Ordering.TheVariants.{Less, Equal, Greater}
use Rattle.edits.specs.Op.{Op, retain, insert, delete, gives}
use Rattle.edits.specs.Align.{Turn, first, second, together, Step, one, two, both, steps, each}
use Rattle.edits.specs.Build.{build}

-- A' and B'
pub record Sides (C : Type 0) : Type 0 where
  pub left : List (Op C)
  pub right : List (Op C)

-- "Of two inserts the lesser by byte order goes first"
abbrev pub lesser : Ordering → Turn
lesser Less = first
lesser Equal = together
lesser Greater = second

module _ {C : Type 0} (order : List C → List C → Ordering) where
  -- "If just one is an insert, it goes first"
  abbrev pub transform_turn : Op C → Op C → Turn
  transform_turn (insert s) (insert t) = lesser (order s t)
  transform_turn (insert s) (retain m) = first
  transform_turn (insert s) (delete m) = first
  transform_turn (retain n) (insert t) = second
  transform_turn (delete n) (insert t) = second
  transform_turn (retain n) (retain m) = together
  transform_turn (retain n) (delete m) = together
  transform_turn (delete n) (retain m) = together
  transform_turn (delete n) (delete m) = together

module _ {C : Type 0} (tie : List C → List (Op C)) where
  -- what the second operation becomes past the first, of as many characters (of two inserts, equal ones): "Retain with retain: both retain the shorter
  -- count. Two deletes: the shorter count disappears. Delete with retain: the deleting side deletes the shorter count."
  abbrev pub past : Op C → Op C → List (Op C)
  past (retain n) p = p ∷ []
  past (insert s) p = tie s
  past (delete n) p = []

  -- an insert that goes first: "its own side inserts, the other retains its characters"
  abbrev pub lefts : Step C → List (Op C)
  lefts (one o) = o ∷ []
  lefts (two p) = retain (gives p) ∷ []
  lefts (both o p) = past p o

  abbrev pub rights : Step C → List (Op C)
  rights (one o) = retain (gives o) ∷ []
  rights (two p) = p ∷ []
  rights (both o p) = past o p

  unfoldable pub transform_by : (List C → List C → Ordering) → List (Op C) → List (Op C) → Sides C
  unfolding steps build
  transform_by order a b =
      let s = steps (transform_turn order) a b in
      record { left = build (each lefts s); right = build (each rights s) }

module _ {C : Type 0} where
  -- "equal ones are both kept, each side inserting and then retaining that many"
  abbrev pub keep_both : List C → List (Op C)
  keep_both s = insert s ∷ retain (length s) ∷ []

  unfoldable pub transform : (List C → List C → Ordering) → List (Op C) → List (Op C) → Sides C
  unfolding transform_by
  transform = transform_by keep_both
