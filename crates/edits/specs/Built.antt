-- A built sequence: no operation is empty, no two neighbours have one kind, and no insert directly follows a delete.
use Rattle.std.specs.Prelude.{Bool, true, false, ◌&&◌, List, [], ◌∷◌, T}
use Rattle.buffers.specs.Lists.{all_of}
use Rattle.edits.specs.Op.{if_zero, Op, retain, insert, delete, size}

pub data Kind : Type 0 where
  retains inserts deletes : Kind

-- may the second kind stand directly behind the first?
abbrev pub follows : Kind → Kind → Bool
follows retains retains = false
follows retains inserts = true
follows retains deletes = true
follows inserts retains = true
follows inserts inserts = false
follows inserts deletes = true
follows deletes retains = true
follows deletes inserts = false
follows deletes deletes = false

module _ {C : Type 0} where
  abbrev pub kind : Op C → Kind
  kind (retain n) = retains
  kind (insert s) = inserts
  kind (delete n) = deletes

  abbrev pub full : Op C → Bool
  full o = if_zero (size o) false true

  abbrev pub next : Op C → List (Op C) → Bool
  next o [] = true
  next o (p ∷ s) = follows (kind o) (kind p)

  abbrev pub chained : List (Op C) → Bool
  chained [] = true
  chained (o ∷ s) = next o s && chained s

  unfoldable pub built : List (Op C) → Bool
  built s = all_of full s && chained s

  abbrev pub Built : List (Op C) → Type 0
  Built s = T (built s)
