-- What the functions that write a list promise each other. Only inner contracts cite this.
use Rattle.std.specs.Prelude.{◌≡◌, ℕ, ◌+◌, Bool, cond, List, [], ◌∷◌, ◌++◌, take}
use Rattle.edits.specs.Sequence.{Seq}
use Rattle.record.specs.declared.inner.Kind.{Kind}
use Rattle.record.specs.declared.inner.Kind.TheVariants.{Retain, Insert, Delete}
use Rattle.record.specs.InnerFront.{ops_left, Place}
use Rattle.json_lists.specs.Written.{decimal, value, others}
use Rattle.json_write_text.specs.InnerPutting.{Goes, quoted}
use Rattle.json_write.specs.declared.inner.Progress.{Progress}

-- a delete's number
unfoldable pub negative : ℕ → List ℕ
unfolding decimal
negative n = 0x2D ∷ decimal n

-- the value of an operation, t being its text and what stands behind it
unfoldable pub value_of : Kind → ℕ → List ℕ → List ℕ
unfolding decimal quoted negative
value_of Retain count t = decimal count
value_of Insert count t = quoted (take count t)
value_of Delete count t = negative count

-- how many bytes of text it has
abbrev pub bytes_of_text : Kind → ℕ → ℕ
bytes_of_text Retain count = 0
bytes_of_text Insert count = count
bytes_of_text Delete count = 0

abbrev pub marks_behind : Bool → ℕ
marks_behind last = cond last 0x5D 0x2C

-- the values from here on, each with what stands behind it
unfoldable pub left : Seq → List ℕ
unfolding value others
left [] = []
left (o ∷ s) = value o ++ others s

-- one value, and what stands behind it
pub record Steps (r : List ℕ) (s : Progress) (o : List ℕ) (u : Progress) (o' : List ℕ) : Type 0 where
  pub place : Place r u.k u.from
  pub next : u.k ≡ s.k + 1
  pub goes : Goes s.at (left (ops_left r s.k s.from)) o u.at (left (ops_left r u.k u.from)) o'
