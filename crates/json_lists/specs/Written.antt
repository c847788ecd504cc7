-- Writing a list: "without white space, escaping only the quotation mark and the backslash, by a backslash before each, and
-- codes below 20 hexadecimal, by `\u00` and two small hexadecimal digits".
use Rattle.std.specs.Prelude.{ℕ, zero, suc, ◌+◌, ◌/◌, ◌%◌, cond, ◌||◌, List, [], ◌∷◌, ◌++◌, ltb, eqb}
use Rattle.characters.specs.Text.{Char, bytes}
use Rattle.edits.specs.Op.{Op, retain, insert, delete}
use Rattle.edits.specs.Sequence.{Seq}

-- a number in decimal; it has no more digits than its value and one
unfoldable pub decimal_in : ℕ → ℕ → List ℕ
decimal_in zero n = []
decimal_in (suc f) n = let more = decimal_in f (n / 10) in cond (ltb n 10) ((0x30 + n) ∷ []) (more ++ ((0x30 + n % 10) ∷ []))

unfoldable pub decimal : ℕ → List ℕ
unfolding decimal_in
decimal n = decimal_in (suc n) n

-- a small hexadecimal digit
unfoldable pub hex_digit_of : ℕ → ℕ
hex_digit_of n = cond (ltb n 10) (0x30 + n) (0x57 + n)

unfoldable pub escaped : ℕ → List ℕ
unfolding hex_digit_of
escaped b =
    cond (eqb b 0x22 || eqb b 0x5C) (0x5C ∷ b ∷ [])
    (cond (ltb b 0x20) (0x5C ∷ 0x75 ∷ 0x30 ∷ 0x30 ∷ hex_digit_of (b / 16) ∷ hex_digit_of (b % 16) ∷ []) (b ∷ []))

abbrev pub escaped_all : List ℕ → List ℕ
escaped_all [] = []
escaped_all (b ∷ bs) = escaped b ++ escaped_all bs

unfoldable pub value : Op Char → List ℕ
unfolding decimal escaped bytes
value (retain n) = decimal n
value (insert s) = 0x22 ∷ (escaped_all (bytes s) ++ (0x22 ∷ []))
value (delete n) = 0x2D ∷ decimal n

-- the values behind the first, and the end
unfoldable pub others : Seq → List ℕ
unfolding value
others [] = 0x5D ∷ []
others (o ∷ s) = 0x2C ∷ (value o ++ others s)

unfoldable pub written : Seq → List ℕ
unfolding value others
written [] = 0x5B ∷ 0x5D ∷ []
written (o ∷ s) = 0x5B ∷ (value o ++ others s)
