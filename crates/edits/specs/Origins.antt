-- Which character of a text after an edit is which character of the text before it. Each is known by a label of any kind, its
-- place for example.
use Rattle.std.specs.Prelude.{◌≡◌, List, [], ◌∷◌, ◌++◌, length, take, drop, replicate}
use Rattle.std.proofs.Math.Option.{Option, none, some}
use Rattle.edits.specs.Op.{Op, retain, insert, delete}

module _ {C D : Type 0} where
  -- the labels after an edit: a character that stays keeps its own, one that is typed has none
  abbrev pub origins : List (Op C) → List (Option D) → List (Option D)
  origins [] ls = []
  origins (retain n ∷ s) ls = take n ls ++ origins s (drop n ls)
  origins (insert x ∷ s) ls = replicate (length x) none ++ origins s ls
  origins (delete n ∷ s) ls = origins s (drop n ls)

  -- and after a row of edits
  abbrev pub origins_all : List (List (Op C)) → List (Option D) → List (Option D)
  origins_all [] ls = ls
  origins_all (e ∷ es) ls = origins_all es (origins e ls)

module _ {D : Type 0} where
  -- the labels that there are, in the order in which they stand
  abbrev pub standing : List (Option D) → List D
  standing [] = []
  standing (none ∷ ls) = standing ls
  standing (some d ∷ ls) = d ∷ standing ls

module _ {C D : Type 0} (char : D → C) where
  -- every label in `ls` stands at the character that it names
  pub data Names : List (Option D) → List C → Type 0 where
    end : Names [] []
    new : {c : C} {ls : List (Option D)} {t : List C} → Names ls t → Names (none ∷ ls) (c ∷ t)
    old : {d : D} {c : C} {ls : List (Option D)} {t : List C} → char d ≡ c → Names ls t → Names (some d ∷ ls) (c ∷ t)
