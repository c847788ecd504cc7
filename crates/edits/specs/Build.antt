-- The builders: document 01, "Builders". A sequence under construction is held last operation first.
use Rattle.std.specs.Prelude.{◌+◌}
use mathlib.Core.List.{List, [], ◌∷◌, ◌++◌, reverse}
use Rattle.edits.specs.Op.{if_zero, Op, retain, insert, delete, size}

module _ {C : Type 0} where
  -- "Retain after retain and delete after delete add up. An insert is joined to an insert that stands last, or that stands
  -- just before a last delete; after a last delete with no insert before it, it is put before that delete. Anything else
  -- is appended."
  unfoldable pub put : Op C → List (Op C) → List (Op C)
  put o [] = o ∷ []
  put (retain n) (retain m ∷ r) = retain (m + n) ∷ r
  put (retain n) (insert x ∷ r) = retain n ∷ insert x ∷ r
  put (retain n) (delete m ∷ r) = retain n ∷ delete m ∷ r
  put (insert s) (retain m ∷ r) = insert s ∷ retain m ∷ r
  put (insert s) (insert x ∷ r) = insert (x ++ s) ∷ r
  put (insert s) (delete m ∷ []) = delete m ∷ insert s ∷ []
  put (insert s) (delete m ∷ retain k ∷ r) = delete m ∷ insert s ∷ retain k ∷ r
  put (insert s) (delete m ∷ insert x ∷ r) = delete m ∷ insert (x ++ s) ∷ r
  put (insert s) (delete m ∷ delete k ∷ r) = delete m ∷ insert s ∷ delete k ∷ r
  put (delete n) (retain m ∷ r) = delete n ∷ retain m ∷ r
  put (delete n) (insert x ∷ r) = delete n ∷ insert x ∷ r
  put (delete n) (delete m ∷ r) = delete (m + n) ∷ r

  -- "Retain 0, delete 0 and insert of no bytes change nothing."
  unfoldable pub add : List (Op C) → Op C → List (Op C)
  unfolding put
  add r o = if_zero (size o) r (put o r)

  -- a sequence with one operation more
  unfoldable pub extend : List (Op C) → Op C → List (Op C)
  unfolding add
  extend s o = reverse (add (reverse s) o)

  -- the built sequence of operations that the builders take one after the other
  unfoldable pub add_all : List (Op C) → List (Op C) → List (Op C)
  unfolding add
  add_all r [] = r
  add_all r (o ∷ s) = add_all (add r o) s

  unfoldable pub build : List (Op C) → List (Op C)
  unfolding add_all
  build s = reverse (add_all [] s)
