-- What becomes of single characters: which of them an edit types, which it keeps, and where they stand after it.
use Rattle.std.specs.Prelude.{Bool, true, false, List, [], ◌∷◌, ◌++◌, T, length, take, drop, replicate}
use Rattle.edits.specs.Op.{Op, retain, insert, delete}

-- marks of the characters of one text: every character that has the first mark has the second
pub data Within : List Bool → List Bool → Type 0 where
  none : Within [] []
  more : {m n : Bool} {ms ns : List Bool} → (T m → T n) → Within ms ns → Within (m ∷ ms) (n ∷ ns)

module _ {C : Type 0} where
  -- the characters that a sequence inserts, in order
  abbrev pub typed_by : Op C → List C
  typed_by (retain n) = []
  typed_by (insert s) = s
  typed_by (delete n) = []

  abbrev pub typed : List (Op C) → List C
  typed [] = []
  typed (o ∷ s) = typed_by o ++ typed s

  -- which characters of the text stay
  abbrev pub stays_by : Op C → List Bool
  stays_by (retain n) = replicate n true
  stays_by (insert s) = []
  stays_by (delete n) = replicate n false

  abbrev pub stays : List (Op C) → List Bool
  stays [] = []
  stays (o ∷ s) = stays_by o ++ stays s

  -- the characters of a text that are marked
  abbrev pub marked : List Bool → List C → List C
  marked [] t = []
  marked (m ∷ ms) [] = []
  marked (true ∷ ms) (c ∷ t) = c ∷ marked ms t
  marked (false ∷ ms) (c ∷ t) = marked ms t

  -- the marks of the text after an edit: a character that stays keeps its own, one that is typed gets the mark `m`
  abbrev pub carry : Bool → List (Op C) → List Bool → List Bool
  carry m [] ms = []
  carry m (retain n ∷ s) ms = take n ms ++ carry m s (drop n ms)
  carry m (insert x ∷ s) ms = replicate (length x) m ++ carry m s ms
  carry m (delete n ∷ s) ms = carry m s (drop n ms)
