-- The grammar of RFC 8259, in its own rules, as far as document 02, M-100, has them. `t` is what stands for a rule, and behind it is
-- what it means. proofs/Theorems.antt has that `read` reads exactly this.
use Rattle.std.specs.Prelude.{ℕ, ◌+◌, ◌*◌, ◌≡◌, Bool, false, not, ◌&&◌, List, [], ◌∷◌, ◌++◌, T, ltb, eqb}
use Rattle.characters.specs.Scalar.{encode_scalar}
use Rattle.json_lists.specs.Form.{Sign, plus, minus, Item, number, string, is_white_space, is_digit1_9, is_digit, value_of_digit, is_hex, value_of_hex, is_high, is_low, paired}

-- "ws = *( %x20 / %x09 / %x0A / %x0D )"
pub data Ws : List ℕ → Type 0 where
  none : Ws []
  more : {t : List ℕ} → Ws t → (b : ℕ) → T (is_white_space b) → Ws (t ++ (b ∷ []))

-- the structural characters: "begin-array = ws %x5B ws", "end-array = ws %x5D ws", "value-separator = ws %x2C ws"
pub data Structural (b : ℕ) : List ℕ → Type 0 where
  structural : {w v : List ℕ} → Ws w → Ws v → Structural b (w ++ (b ∷ v))

-- "int = zero / ( digit1-9 *DIGIT )", without the zero
pub data Int : List ℕ → ℕ → Type 0 where
  first : {b : ℕ} → T (is_digit1_9 b) → Int (b ∷ []) (value_of_digit b)
  more : {t : List ℕ} {n : ℕ} → Int t n → (b : ℕ) → T (is_digit b) → Int (t ++ (b ∷ [])) (n * 10 + value_of_digit b)

-- "number = [ minus ] int [ frac ] [ exp ]", without the last two
pub data Number : List ℕ → Sign → ℕ → Type 0 where
  positive : {t : List ℕ} {n : ℕ} → Int t n → Number t plus n
  negative : {t : List ℕ} {n : ℕ} → Int t n → Number (0x2D ∷ t) minus n

-- "unescaped = %x20-21 / %x23-5B / %x5D-10FFFF", in bytes
unfoldable pub is_raw : ℕ → Bool
is_raw b = not (eqb b 0x22) && (not (eqb b 0x5C) && not (ltb b 0x20))

-- the escapes of one letter, and the codes that they stand for
pub data Short : ℕ → ℕ → Type 0 where
  quotation_mark : Short 0x22 0x22
  reverse_solidus : Short 0x5C 0x5C
  solidus : Short 0x2F 0x2F
  backspace : Short 0x62 0x08
  form_feed : Short 0x66 0x0C
  line_feed : Short 0x6E 0x0A
  carriage_return : Short 0x72 0x0D
  tab : Short 0x74 0x09

-- "4HEXDIG"
pub data Hex4 : List ℕ → ℕ → Type 0 where
  hex4 : {a b c d : ℕ} → T (is_hex a) → T (is_hex b) → T (is_hex c) → T (is_hex d)
      → Hex4 (a ∷ b ∷ c ∷ d ∷ []) (((value_of_hex a * 16 + value_of_hex b) * 16 + value_of_hex c) * 16 + value_of_hex d)

-- "char = unescaped / escape ( .. )"; no surrogate stands alone
pub data Character : List ℕ → List ℕ → Type 0 where
  unescaped : {b : ℕ} → T (is_raw b) → Character (b ∷ []) (b ∷ [])
  short : {b c : ℕ} → Short b c → Character (0x5C ∷ b ∷ []) (c ∷ [])
  unicode : {t : List ℕ} {v : ℕ} → Hex4 t v → is_high v ≡ false → is_low v ≡ false → Character (0x5C ∷ 0x75 ∷ t) (encode_scalar v)
  surrogates : {t u : List ℕ} {v w : ℕ} → Hex4 t v → T (is_high v) → Hex4 u w → T (is_low w) → Character (0x5C ∷ 0x75 ∷ (t ++ (0x5C ∷ 0x75 ∷ u))) (encode_scalar (paired v w))

-- "*char"
pub data Characters : List ℕ → List ℕ → Type 0 where
  none : Characters [] []
  more : {t s u c : List ℕ} → Characters t s → Character u c → Characters (t ++ u) (s ++ c)

-- "string = quotation-mark *char quotation-mark"; "value = .. / number / string"
pub data Value : List ℕ → Item → Type 0 where
  of_number : {t : List ℕ} {s : Sign} {n : ℕ} → Number t s n → Value t (number s n)
  of_string : {t s : List ℕ} → Characters t s → Value (0x22 ∷ (t ++ (0x22 ∷ []))) (string s)

-- "value *( value-separator value )"
pub data Values : List ℕ → List Item → Type 0 where
  one : {t : List ℕ} {x : Item} → Value t x → Values t (x ∷ [])
  more : {t c u : List ℕ} {l : List Item} {x : Item} → Values t l → Structural 0x2C c → Value u x → Values (t ++ (c ++ u)) (l ++ (x ∷ []))

-- "array = begin-array [ value *( value-separator value ) ] end-array"
pub data Array : List ℕ → List Item → Type 0 where
  empty : {a z : List ℕ} → Structural 0x5B a → Structural 0x5D z → Array (a ++ z) []
  full : {a t z : List ℕ} {l : List Item} → Structural 0x5B a → Values t l → Structural 0x5D z → Array (a ++ (t ++ z)) l

-- "JSON-text = ws value ws", the value being an array
pub data JsonText : List ℕ → List Item → Type 0 where
  json_text : {w t v : List ℕ} {l : List Item} → Ws w → Array t l → Ws v → JsonText (w ++ (t ++ v)) l
