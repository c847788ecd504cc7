-- A text as a list of characters. A character is one Unicode scalar value; it is held as its own well-formed bytes.
use Rattle.std.specs.Prelude.{ℕ, List, ◌∷◌, [], map, T, Bool, true, false}
use Rattle.buffers.specs.Lists.{concat}
use Rattle.characters.specs.Form.{well_char}
use Rattle.characters.specs.Chars.{chars_of}

pub record Char : Type 0 where
  pub bytes : List ℕ
  pub well : T (well_char bytes)

abbrev pub keep : (c : List ℕ) (b : Bool) → (T b → T (well_char c)) → List Char → List Char
keep c true h cs = record { bytes = c; well = h tt } ∷ cs
keep c false h cs = cs

-- those that are well-formed: of a well-formed text, all
abbrev pub well_of : List (List ℕ) → List Char
well_of [] = []
well_of (c ∷ cs) = keep c (well_char c) (λ h. h) (well_of cs)

-- the characters of a text, and the bytes of characters
unfoldable pub chars : List ℕ → List Char
chars t = well_of (chars_of t)

unfoldable pub bytes : List Char → List ℕ
bytes cs = concat (map (λ c. c.bytes) cs)
