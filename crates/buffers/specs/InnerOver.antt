-- Bytes laid over a buffer from a place on. Only inner contracts cite this.
use Rattle.std.specs.Prelude.{ℕ, zero, suc, ◌/◌, ◌%◌, List, [], ◌∷◌}

-- ---- bytes laid over a buffer from a place on; what does not fit falls away

unfoldable pub place : List ℕ → List ℕ → List ℕ
place [] o = o
place (x ∷ xs) [] = []
place (x ∷ xs) (y ∷ o) = x ∷ place xs o

unfoldable pub over : ℕ → List ℕ → List ℕ → List ℕ
unfolding place
over zero xs o = place xs o
over (suc p) xs [] = []
over (suc p) xs (y ∷ o) = y ∷ over p xs o

-- a number in two bytes, cut off above
abbrev pub bytes16 : ℕ → List ℕ
bytes16 v = v % 256 ∷ v / 256 % 256 ∷ []
