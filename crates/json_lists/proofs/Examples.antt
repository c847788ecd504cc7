-- Lists that are read, lists that are not, and lists as they are written.
use Prim.Native.Nat.{ℕ}
use mathlib.Core.Path.{◌≡◌, refl}
use mathlib.Core.List.{List, [], ◌∷◌, ◌++◌}
use mathlib.Core.Option.{none, some}
use lib.ListN.{replicate}
use Rattle.characters.specs.Form.{within, lead_from}
use Rattle.characters.specs.Chars.{is_continuation}
use Rattle.characters.specs.Text.{chars}
use Rattle.answers.specs.Answer.{success, refused}
use Rattle.edits.specs.Op.{retain, insert, delete}
use Rattle.json_lists.specs.Form.{plus, minus, number, string, read}
use Rattle.json_lists.specs.Written.{written}
use Rattle.json_lists.specs.Calls.{ops_of, from_json_call, to_json_call}

-- bytes between brackets, and between quotation marks in brackets
abbrev array : List ℕ → List ℕ
array l = 0x5B ∷ (l ++ (0x5D ∷ []))

abbrev quoted : List ℕ → List ℕ
quoted l = array (0x22 ∷ (l ++ (0x22 ∷ [])))

abbrev u : ℕ → ℕ → ℕ → ℕ → List ℕ → List ℕ
u a b c d l = 0x5C ∷ 0x75 ∷ a ∷ b ∷ c ∷ d ∷ l

pub reads :
    -- [] and  [ 5 , "x" , -2 ] , with all four kinds of white space
    (read (0x5B ∷ 0x5D ∷ []) ≡ some [])
    × (read (0x20 ∷ 0x5B ∷ 0x09 ∷ 0x35 ∷ 0x20 ∷ 0x2C ∷ 0x0A ∷ 0x22 ∷ 0x78 ∷ 0x22 ∷ 0x20 ∷ 0x2C ∷ 0x0D ∷ 0x2D ∷ 0x32 ∷ 0x20 ∷ 0x5D ∷ 0x20 ∷ [])
    ≡ some (number plus 5 ∷ string (0x78 ∷ []) ∷ number minus 2 ∷ []))
    -- [""] and [100000000000000000000]
    × (read (quoted []) ≡ some (string [] ∷ []))
    × (read (array (0x31 ∷ replicate 20 0x30)) ≡ some (number plus 100000000000000000000 ∷ []))
    -- the eight short escapes
    × (read (quoted (0x5C ∷ 0x22 ∷ 0x5C ∷ 0x5C ∷ 0x5C ∷ 0x2F ∷ 0x5C ∷ 0x62 ∷ 0x5C ∷ 0x66 ∷ 0x5C ∷ 0x6E ∷ 0x5C ∷ 0x72 ∷ 0x5C ∷ 0x74 ∷ []))
    ≡ some (string (0x22 ∷ 0x5C ∷ 0x2F ∷ 0x08 ∷ 0x0C ∷ 0x0A ∷ 0x0D ∷ 0x09 ∷ []) ∷ []))
    -- \u0000, \u00e4 and \u00E4, \u20AC, \uFFFF; the pairs \uD800\uDC00, \uD83D\ude00 and \uDBFF\uDFFF
    × (read (quoted (u 0x30 0x30 0x30 0x30 [])) ≡ some (string (0x00 ∷ []) ∷ []))
    × (read (quoted (u 0x30 0x30 0x65 0x34 (u 0x30 0x30 0x45 0x34 []))) ≡ some (string (0xC3 ∷ 0xA4 ∷ 0xC3 ∷ 0xA4 ∷ []) ∷ []))
    × (read (quoted (u 0x32 0x30 0x41 0x43 (u 0x46 0x46 0x46 0x46 []))) ≡ some (string (0xE2 ∷ 0x82 ∷ 0xAC ∷ 0xEF ∷ 0xBF ∷ 0xBF ∷ []) ∷ []))
    × (read (quoted (u 0x44 0x38 0x30 0x30 (u 0x44 0x43 0x30 0x30 []))) ≡ some (string (0xF0 ∷ 0x90 ∷ 0x80 ∷ 0x80 ∷ []) ∷ []))
    × (read (quoted (u 0x44 0x38 0x33 0x44 (u 0x44 0x65 0x30 0x30 []))) ≡ some (string (0xF0 ∷ 0x9F ∷ 0x98 ∷ 0x80 ∷ []) ∷ []))
    × (read (quoted (u 0x44 0x42 0x46 0x46 (u 0x44 0x46 0x46 0x46 []))) ≡ some (string (0xF4 ∷ 0x8F ∷ 0xBF ∷ 0xBF ∷ []) ∷ []))
    -- the bounds of UTF-8: 7F, 80, 7FF, 800, D7FF, E000
    × (read (quoted (u 0x30 0x30 0x37 0x46 (u 0x30 0x30 0x38 0x30 (u 0x30 0x37 0x66 0x66 [])))) ≡ some (string (0x7F ∷ 0xC2 ∷ 0x80 ∷ 0xDF ∷ 0xBF ∷ []) ∷ []))
    × (read (quoted (u 0x30 0x38 0x30 0x30 (u 0x44 0x37 0x46 0x46 (u 0x45 0x30 0x30 0x30 [])))) ≡ some (string (0xE0 ∷ 0xA0 ∷ 0x80 ∷ 0xED ∷ 0x9F ∷ 0xBF ∷ 0xEE ∷ 0x80 ∷ 0x80 ∷ []) ∷ []))
    -- raw: a space and 7F in a string, ä
    × (read (quoted (0x20 ∷ 0x7F ∷ 0xC3 ∷ 0xA4 ∷ [])) ≡ some (string (0x20 ∷ 0x7F ∷ 0xC3 ∷ 0xA4 ∷ []) ∷ []))
unfolding read lead_from within
reads = (refl, refl, refl, refl, refl, refl, refl, refl, refl, refl, refl, refl, refl, refl)

-- nothing, white space only, [, ], a value without a list, a list in a list
pub refuses_shapes :
    (read [] ≡ none) × (read (0x20 ∷ []) ≡ none) × (read (0x5B ∷ []) ≡ none) × (read (0x5D ∷ []) ≡ none) × (read (0x35 ∷ []) ≡ none)
    × (read (array (array [])) ≡ none)
unfolding read lead_from within
refuses_shapes = (refl, refl, refl, refl, refl, refl)

-- [0] [-0] [01] [-01] [1.0] [1e3] [+1] [-] [- 1] [1 2]
pub refuses_numbers :
    (read (array (0x30 ∷ [])) ≡ none) × (read (array (0x2D ∷ 0x30 ∷ [])) ≡ none) × (read (array (0x30 ∷ 0x31 ∷ [])) ≡ none)
    × (read (array (0x2D ∷ 0x30 ∷ 0x31 ∷ [])) ≡ none) × (read (array (0x31 ∷ 0x2E ∷ 0x30 ∷ [])) ≡ none) × (read (array (0x31 ∷ 0x65 ∷ 0x33 ∷ [])) ≡ none)
    × (read (array (0x2B ∷ 0x31 ∷ [])) ≡ none) × (read (array (0x2D ∷ [])) ≡ none) × (read (array (0x2D ∷ 0x20 ∷ 0x31 ∷ [])) ≡ none)
    × (read (array (0x31 ∷ 0x20 ∷ 0x32 ∷ [])) ≡ none)
unfolding read lead_from within
refuses_numbers = (refl, refl, refl, refl, refl, refl, refl, refl, refl, refl)

-- [,] [1,] [,1], a byte order mark, a byte behind the list
pub refuses_extra :
    (read (array (0x2C ∷ [])) ≡ none) × (read (array (0x31 ∷ 0x2C ∷ [])) ≡ none) × (read (array (0x2C ∷ 0x31 ∷ [])) ≡ none)
    × (read (0xEF ∷ 0xBB ∷ 0xBF ∷ array []) ≡ none) × (read (0x5B ∷ 0x5D ∷ 0x78 ∷ []) ≡ none) × (read (0x5B ∷ 0x5D ∷ 0x00 ∷ []) ≡ none)
unfolding read lead_from within
refuses_extra = (refl, refl, refl, refl, refl, refl)

-- what is no white space: 0B, 0C, C2 A0
pub refuses_spaces :
    (read (array (0x0B ∷ [])) ≡ none) × (read (array (0x0C ∷ [])) ≡ none) × (read (array (0xC2 ∷ 0xA0 ∷ [])) ≡ none)
unfolding read lead_from within
refuses_spaces = (refl, refl, refl)

-- what is no hexadecimal digit: / : @ G ` g
pub refuses_digits :
    (read (quoted (u 0x30 0x30 0x30 0x2F [])) ≡ none) × (read (quoted (u 0x30 0x30 0x30 0x3A [])) ≡ none) × (read (quoted (u 0x30 0x30 0x30 0x40 [])) ≡ none)
    × (read (quoted (u 0x30 0x30 0x30 0x47 [])) ≡ none) × (read (quoted (u 0x30 0x30 0x30 0x60 [])) ≡ none) × (read (quoted (u 0x30 0x30 0x30 0x67 [])) ≡ none)
unfolding read lead_from within
refuses_digits = (refl, refl, refl, refl, refl, refl)

-- a low surrogate first; a high one with nothing, a letter, an escape, \u0041 or a high one behind it
pub refuses_surrogates :
    (read (quoted (u 0x44 0x43 0x30 0x30 [])) ≡ none) × (read (quoted (u 0x44 0x38 0x30 0x30 [])) ≡ none)
    × (read (quoted (u 0x44 0x38 0x30 0x30 (0x61 ∷ []))) ≡ none) × (read (quoted (u 0x44 0x38 0x30 0x30 (0x5C ∷ 0x6E ∷ []))) ≡ none)
    × (read (quoted (u 0x44 0x38 0x30 0x30 (u 0x30 0x30 0x34 0x31 []))) ≡ none) × (read (quoted (u 0x44 0x38 0x30 0x30 (u 0x44 0x38 0x30 0x30 []))) ≡ none)
unfolding read lead_from within
refuses_surrogates = (refl, refl, refl, refl, refl, refl)

-- three digits, \x, a raw line feed, 1F, an open string, ill-formed UTF-8: C0 80, ED A0 80, a character cut off
pub refuses_strings :
    (read (quoted (0x5C ∷ 0x75 ∷ 0x30 ∷ 0x30 ∷ 0x34 ∷ [])) ≡ none) × (read (quoted (0x5C ∷ 0x78 ∷ [])) ≡ none)
    × (read (quoted (0x0A ∷ [])) ≡ none) × (read (quoted (0x1F ∷ [])) ≡ none) × (read (array (0x22 ∷ [])) ≡ none)
    × (read (quoted (0xC0 ∷ 0x80 ∷ [])) ≡ none) × (read (quoted (0xED ∷ 0xA0 ∷ 0x80 ∷ [])) ≡ none) × (read (quoted (0xC3 ∷ [])) ≡ none)
unfolding read lead_from within
refuses_strings = (refl, refl, refl, refl, refl, refl, refl, refl)

-- R5 I"a\ä" D20 as [5,"a\\ä",-20]; quotation mark, line feed and 1F as \" \u000a \u001f
pub writes :
    (written [] ≡ 0x5B ∷ 0x5D ∷ [])
    × (written (retain 5 ∷ insert (chars (0x61 ∷ 0x5C ∷ 0xC3 ∷ 0xA4 ∷ [])) ∷ delete 20 ∷ [])
    ≡ array (0x35 ∷ 0x2C ∷ 0x22 ∷ 0x61 ∷ 0x5C ∷ 0x5C ∷ 0xC3 ∷ 0xA4 ∷ 0x22 ∷ 0x2C ∷ 0x2D ∷ 0x32 ∷ 0x30 ∷ []))
    × (written (insert (chars (0x22 ∷ 0x0A ∷ 0x1F ∷ 0x2F ∷ 0x7F ∷ [])) ∷ [])
    ≡ quoted (0x5C ∷ 0x22 ∷ u 0x30 0x30 0x30 0x61 (u 0x30 0x30 0x31 0x66 (0x2F ∷ 0x7F ∷ []))))
    × (written (retain 32768 ∷ []) ≡ array (0x33 ∷ 0x32 ∷ 0x37 ∷ 0x36 ∷ 0x38 ∷ []))
unfolding written chars lead_from is_continuation within
writes = (refl, refl, refl, refl)

abbrev room : List ℕ
room = replicate 20 0xFF

-- 11 comes before 9, and 9 before 10; "" changes nothing; [-2,"x"] is the sequence I"x" D2
pub calls :
    (from_json_call (array []) room ≡ record { answer = success (8 ∷ []); out = replicate 8 0 ++ replicate 12 0xFF })
    × ((from_json_call (quoted []) room).answer ≡ success (8 ∷ []))
    × (ops_of (number minus 2 ∷ string (0x78 ∷ []) ∷ []) ≡ insert (chars (0x78 ∷ [])) ∷ delete 2 ∷ [])
    × ((from_json_call (array (0x33 ∷ 0x32 ∷ 0x37 ∷ 0x36 ∷ 0x38 ∷ [])) room).answer ≡ success (11 ∷ []))
    × ((from_json_call (array (0x33 ∷ 0x32 ∷ 0x37 ∷ 0x36 ∷ 0x39 ∷ [])) []).answer ≡ refused 9)
    × (from_json_call (array (0x39 ∷ 0x39 ∷ 0x39 ∷ 0x39 ∷ 0x39 ∷ 0x2C ∷ [])) [] ≡ record { answer = refused 11; out = [] })
    × ((from_json_call (array []) (replicate 7 0)).answer ≡ refused 10)
    × ((to_json_call (replicate 8 0) room).answer ≡ success (2 ∷ []))
    × ((to_json_call (replicate 8 0) (0xFF ∷ [])).answer ≡ refused 10)
    × ((to_json_call (replicate 7 0) []).answer ≡ refused 1)
unfolding from_json_call to_json_call ops_of chars lead_from is_continuation within
calls = (refl, refl, refl, refl, refl, refl, refl, refl, refl, refl)
