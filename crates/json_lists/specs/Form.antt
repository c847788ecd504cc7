-- The form of a list: RFC 8259, sections 2, 5, 6, 7 and 8, as far as document 02, M-100, has them: one array of numbers and strings.
-- "Errors: 11 .. for bytes outside this form, ill-formed UTF-8 included, a 0 or -0, a fraction, an exponent or a lone surrogate;
-- the whole slice given is the list."
-- The bytes are read one after the other. A `Place` is where in the grammar the next byte stands. `Grammar` has the RFC's own
-- rules, and proofs/Theorems.antt that exactly these are read.
use Rattle.std.specs.Prelude.{ℕ, zero, suc, ◌+◌, ◌*◌, ◌-◌, Bool, true, false, cond, ◌&&◌, ◌||◌, List, [], ◌∷◌, ◌++◌, ltb, eqb}
use Rattle.std.proofs.Math.Option.{Option, none, some}
use Rattle.characters.specs.Form.{within, is_well_formed}
use Rattle.characters.specs.Scalar.{encode_scalar}

-- "a positive whole number retains, a negative one deletes, a string inserts"; a number is of any length, a string is held
-- as its text in UTF-8
pub data Sign : Type 0 where
  plus minus : Sign

pub data Item : Type 0 where
  number : Sign → ℕ → Item
  string : List ℕ → Item

-- ---- the alphabet

-- "ws = *( %x20 / %x09 / %x0A / %x0D )"
unfoldable pub is_white_space : ℕ → Bool
is_white_space b = eqb b 0x20 || eqb b 0x09 || eqb b 0x0A || eqb b 0x0D

-- "digit1-9 = %x31-39", and DIGIT, %x30-39
unfoldable pub is_digit1_9 : ℕ → Bool
unfolding within
is_digit1_9 b = within 0x31 0x39 b

unfoldable pub is_digit : ℕ → Bool
unfolding within
is_digit b = within 0x30 0x39 b

unfoldable pub value_of_digit : ℕ → ℕ
value_of_digit b = b - 0x30

-- "The hexadecimal letters A through F can be uppercase or lowercase."
unfoldable pub is_hex : ℕ → Bool
unfolding within
is_hex b = within 0x30 0x39 b || within 0x41 0x46 b || within 0x61 0x66 b

unfoldable pub value_of_hex : ℕ → ℕ
value_of_hex b = cond (ltb b 0x3A) (b - 0x30) (cond (ltb b 0x47) (b - 0x37) (b - 0x57))

-- ---- characters by their numbers

-- "To escape an extended character that is not in the Basic Multilingual Plane, the character is represented as a
-- 12-character sequence, encoding the UTF-16 surrogate pair."
unfoldable pub is_high : ℕ → Bool
unfolding within
is_high v = within 0xD800 0xDBFF v

unfoldable pub is_low : ℕ → Bool
unfolding within
is_low v = within 0xDC00 0xDFFF v

unfoldable pub paired : ℕ → ℕ → ℕ
paired high low = 0x10000 + (high - 0xD800) * 0x400 + (low - 0xDC00)

-- ---- the places

pub data Place : Type 0 where
  at_start : Place
  after_bracket : Place  -- behind begin-array: a value or end-array
  after_comma : Place  -- behind value-separator: a value
  after_minus : Place
  in_number : Sign → ℕ → Place  -- the number so far
  in_string : List ℕ → Place  -- its text so far
  after_escape : List ℕ → Place  -- behind a reverse solidus in a string
  -- behind \u: the high surrogate before it, how many digits are due behind the next one, the value so far, the text
  in_unicode : Option ℕ → ℕ → ℕ → List ℕ → Place
  after_high : ℕ → List ℕ → Place  -- behind a high surrogate: a low one must follow
  after_high_escape : ℕ → List ℕ → Place
  after_value : Place
  at_end : Place
  outside : Place  -- the bytes are outside the form

-- "value = .. / array / number / string": a quotation mark, a minus or a digit begins one. "int = zero / ( digit1-9 *DIGIT )",
-- without the zero
abbrev pub begins : ℕ → Place
begins b = cond (eqb b 0x22) (in_string []) (cond (eqb b 0x2D) after_minus (cond (is_digit1_9 b) (in_number plus (value_of_digit b)) outside))

-- "array = begin-array [ value *( value-separator value ) ] end-array", with ws around each of the three
abbrev pub follows : ℕ → Place
follows b = cond (is_white_space b) after_value (cond (eqb b 0x2C) after_comma (cond (eqb b 0x5D) at_end outside))

-- "unescaped = %x20-21 / %x23-5B / %x5D-10FFFF", in bytes
abbrev pub in_text : List ℕ → ℕ → Place
in_text t b = cond (eqb b 0x22) after_value (cond (eqb b 0x5C) (after_escape t) (cond (ltb b 0x20) outside (in_string (t ++ (b ∷ [])))))

-- %x22, %x5C and %x2F stand for themselves, b f n r t for 08, 0C, 0A, 0D, 09, and uXXXX for a number
abbrev pub escapes : List ℕ → ℕ → Place
escapes t b =
    cond (eqb b 0x22 || eqb b 0x5C || eqb b 0x2F) (in_string (t ++ (b ∷ [])))
    (cond (eqb b 0x62) (in_string (t ++ (0x08 ∷ [])))
    (cond (eqb b 0x66) (in_string (t ++ (0x0C ∷ [])))
    (cond (eqb b 0x6E) (in_string (t ++ (0x0A ∷ [])))
    (cond (eqb b 0x72) (in_string (t ++ (0x0D ∷ [])))
    (cond (eqb b 0x74) (in_string (t ++ (0x09 ∷ []))) (cond (eqb b 0x75) (in_unicode none 3 0 t) outside))))))

-- a surrogate stands for a character only with the other of its pair
abbrev pub named : Option ℕ → ℕ → List ℕ → Place
named none v t = cond (is_high v) (after_high v t) (cond (is_low v) outside (in_string (t ++ encode_scalar v)))
named (some high) v t = cond (is_low v) (in_string (t ++ encode_scalar (paired high v))) outside

-- "%x75 4HEXDIG"
abbrev pub counted : Option ℕ → ℕ → ℕ → List ℕ → Place
counted high zero v t = named high v t
counted high (suc due) v t = in_unicode high due v t

-- where the byte behind b stands
unfoldable pub next : Place → ℕ → Place
unfolding is_white_space is_digit1_9 is_digit value_of_digit is_hex value_of_hex encode_scalar is_high is_low paired
next at_start b = cond (is_white_space b) at_start (cond (eqb b 0x5B) after_bracket outside)
next after_bracket b = cond (is_white_space b) after_bracket (cond (eqb b 0x5D) at_end (begins b))
next after_comma b = cond (is_white_space b) after_comma (begins b)
next after_minus b = cond (is_digit1_9 b) (in_number minus (value_of_digit b)) outside
next (in_number s n) b = cond (is_digit b) (in_number s (n * 10 + value_of_digit b)) (follows b)
next (in_string t) b = in_text t b
next (after_escape t) b = escapes t b
next (in_unicode high due v t) b = cond (is_hex b) (counted high due (v * 16 + value_of_hex b) t) outside
next (after_high high t) b = cond (eqb b 0x5C) (after_high_escape high t) outside
next (after_high_escape high t) b = cond (eqb b 0x75) (in_unicode (some high) 3 0 t) outside
next after_value b = follows b
next at_end b = cond (is_white_space b) at_end outside
next outside b = outside

-- the item that ends at b: a number before the first byte that is no digit, a string at its quotation mark
unfoldable pub ends : Place → ℕ → List Item
unfolding is_digit
ends at_start b = []
ends after_bracket b = []
ends after_comma b = []
ends after_minus b = []
ends (in_number s n) b = cond (is_digit b) [] (number s n ∷ [])
ends (in_string t) b = cond (eqb b 0x22) (string t ∷ []) []
ends (after_escape t) b = []
ends (in_unicode high due v t) b = []
ends (after_high high t) b = []
ends (after_high_escape high t) b = []
ends after_value b = []
ends at_end b = []
ends outside b = []

-- the place behind all the bytes, and the items that end in them
unfoldable pub reached : Place → List ℕ → Place
unfolding next
reached p [] = p
reached p (b ∷ bs) = reached (next p b) bs

unfoldable pub items : Place → List ℕ → List Item
unfolding next ends
items p [] = []
items p (b ∷ bs) = ends p b ++ items (next p b) bs

abbrev pub is_end : Place → Bool
is_end at_start = false
is_end after_bracket = false
is_end after_comma = false
is_end after_minus = false
is_end (in_number s n) = false
is_end (in_string t) = false
is_end (after_escape t) = false
is_end (in_unicode high due v t) = false
is_end (after_high high t) = false
is_end (after_high_escape high t) = false
is_end after_value = false
is_end at_end = true
is_end outside = false

-- "JSON text .. MUST be encoded using UTF-8"; "JSON-text = ws value ws", the value being an array
unfoldable pub in_form : List ℕ → Bool
unfolding reached
in_form list = is_well_formed list && is_end (reached at_start list)

-- the items of a list; none where the bytes are outside the form
unfoldable pub read : List ℕ → Option (List Item)
unfolding in_form items
read list = cond (in_form list) (some (items at_start list)) none
