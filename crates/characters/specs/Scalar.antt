-- Unicode scalar values and their UTF-8: RFC 3629, section 3.
use Rattle.std.specs.Prelude.{ℕ, ◌+◌, ◌*◌, ◌-◌, ◌/◌, ◌%◌, Bool, cond, ◌||◌, List, [], ◌∷◌, leb}
use Rattle.characters.specs.Form.{within}
use Rattle.characters.specs.Text.{Char}

-- U+0000 to U+10FFFF without the surrogates: "The definition of UTF-8 prohibits encoding character numbers between U+D800 and
-- U+DFFF"
unfoldable pub is_scalar : ℕ → Bool
unfolding within
is_scalar v = within 0 0xD7FF v || within 0xE000 0x10FFFF v

-- "10xxxxxx": the lowest six bits of v, behind "10"; section 4 calls such a byte UTF8-tail
abbrev pub tail_byte : ℕ → ℕ
tail_byte v = 0x80 + v % 64

--   "0000 0000-0000 007F | 0xxxxxxx
--    0000 0080-0000 07FF | 110xxxxx 10xxxxxx
--    0000 0800-0000 FFFF | 1110xxxx 10xxxxxx 10xxxxxx
--    0001 0000-0010 FFFF | 11110xxx 10xxxxxx 10xxxxxx 10xxxxxx"
unfoldable pub encode_scalar : ℕ → List ℕ
encode_scalar v =
    cond (leb v 0x7F) (v ∷ [])
    (cond (leb v 0x7FF) ((0xC0 + v / 64) ∷ tail_byte v ∷ [])
    (cond (leb v 0xFFFF) ((0xE0 + v / 4096) ∷ tail_byte (v / 64) ∷ tail_byte v ∷ [])
    ((0xF0 + v / 262144) ∷ tail_byte (v / 4096) ∷ tail_byte (v / 64) ∷ tail_byte v ∷ [])))

-- "Decoding a UTF-8 character": the bits marked x, of as many bytes as there are
unfoldable pub decode_scalar : List ℕ → ℕ
decode_scalar [] = 0
decode_scalar (a ∷ []) = a
decode_scalar (a ∷ b ∷ []) = (a - 0xC0) * 64 + (b - 0x80)
decode_scalar (a ∷ b ∷ c ∷ []) = (a - 0xE0) * 4096 + (b - 0x80) * 64 + (c - 0x80)
decode_scalar (a ∷ b ∷ c ∷ d ∷ s) = (a - 0xF0) * 262144 + (b - 0x80) * 4096 + (c - 0x80) * 64 + (d - 0x80)

-- the scalar value that a character is
unfoldable pub scalar_of : Char → ℕ
unfolding decode_scalar
scalar_of c = decode_scalar c.bytes
