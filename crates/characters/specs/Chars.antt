-- Characters of any bytes at all: a character is a byte that is no continuation, with the continuations behind it.
use Rattle.std.specs.Prelude.{ℕ, suc, Bool, cond, List, [], ◌∷◌, ◌++◌, take, drop}
use Rattle.buffers.specs.Lists.{concat}
use Rattle.characters.specs.Form.{within}

-- "A continuation is 80..BF."
unfoldable pub is_continuation : ℕ → Bool
unfolding within
is_continuation b = within 0x80 0xBF b

-- "the number of bytes that aren't continuations"
abbrev pub number_of_chars : List ℕ → ℕ
number_of_chars [] = 0
number_of_chars (b ∷ bs) = cond (is_continuation b) (number_of_chars bs) (suc (number_of_chars bs))

-- the continuations at the front, which belong to no character
abbrev pub loose : List ℕ → List ℕ
loose [] = []
loose (b ∷ bs) = cond (is_continuation b) (b ∷ loose bs) []

-- the bytes cut before each one that is no continuation
abbrev pub chars_of : List ℕ → List (List ℕ)
chars_of [] = []
chars_of (b ∷ bs) = cond (is_continuation b) (chars_of bs) ((b ∷ loose bs) ∷ chars_of bs)

-- the first k characters, with what stands loose before them; and the rest
abbrev pub take_chars : ℕ → List ℕ → List ℕ
take_chars k bs = loose bs ++ concat (take k (chars_of bs))

abbrev pub drop_chars : ℕ → List ℕ → List ℕ
drop_chars k bs = concat (drop k (chars_of bs))
