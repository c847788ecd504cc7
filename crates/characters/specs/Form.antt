-- Well-formed UTF-8: RFC 3629, section 4; document 01, "Characters".
use Rattle.std.specs.Prelude.{ℕ, zero, suc, Bool, ◌&&◌, cond, true, false, leb, List, [], ◌∷◌, Option, Some, None}

-- b is from lo to hi
unfoldable pub within : ℕ → ℕ → ℕ → Bool
within lo hi b = leb lo b && leb b hi

-- what a first byte asks for: `Some (n, lo, hi)` is n more bytes, the second from lo to hi; `None`, that no character begins so
abbrev pub Lead : Type 0
Lead = Option (ℕ × ℕ × ℕ)

-- the first bytes from `first` to `last`, and what they ask for
pub record Row : Type 0 where
  pub first : ℕ
  pub last : ℕ
  pub lead : Lead

abbrev row : ℕ → ℕ → Lead → Row
row a z x = record { first = a; last = z; lead = x }

-- every byte after the second is a continuation, 80..BF
unfoldable pub rows : List Row
rows =
    row 0x00 0x7F (Some (0, 0x80, 0xBF))
    ∷ row 0xC2 0xDF (Some (1, 0x80, 0xBF))
    ∷ row 0xE0 0xE0 (Some (2, 0xA0, 0xBF))
    ∷ row 0xE1 0xEC (Some (2, 0x80, 0xBF))
    ∷ row 0xEE 0xEF (Some (2, 0x80, 0xBF))
    ∷ row 0xED 0xED (Some (2, 0x80, 0x9F))
    ∷ row 0xF0 0xF0 (Some (3, 0x90, 0xBF))
    ∷ row 0xF1 0xF3 (Some (3, 0x80, 0xBF))
    ∷ row 0xF4 0xF4 (Some (3, 0x80, 0x8F))
    ∷ []

-- a byte of no row begins no character
unfoldable pub lead_in : List Row → ℕ → Lead
unfolding within
lead_in [] b = None
lead_in (r ∷ rs) b = cond (within r.first r.last b) r.lead (lead_in rs b)

unfoldable pub lead_from : ℕ → Lead
unfolding rows lead_in
lead_from b = lead_in rows b

-- what is left of a text: with `Some (n, lo, hi)` n bytes are due, the next from lo to hi, and then whole characters
abbrev pub well_formed_from : List ℕ → Lead → Bool
well_formed_from [] None = false
well_formed_from [] (Some (zero, lo, hi)) = true
well_formed_from [] (Some (suc n, lo, hi)) = false
well_formed_from (b ∷ bs) None = false
well_formed_from (b ∷ bs) (Some (zero, lo, hi)) = well_formed_from bs (lead_from b)
well_formed_from (b ∷ bs) (Some (suc n, lo, hi)) = within lo hi b && well_formed_from bs (Some (n, 0x80, 0xBF))

-- at the start of a text no byte is due
abbrev pub is_well_formed : List ℕ → Bool
is_well_formed bs = well_formed_from bs (Some (0, 0x80, 0xBF))

-- exactly the bytes that are due, and nothing behind them
abbrev pub whole : List ℕ → Lead → Bool
whole [] None = false
whole [] (Some (zero, lo, hi)) = true
whole [] (Some (suc n, lo, hi)) = false
whole (b ∷ bs) None = false
whole (b ∷ bs) (Some (zero, lo, hi)) = false
whole (b ∷ bs) (Some (suc n, lo, hi)) = within lo hi b && whole bs (Some (n, 0x80, 0xBF))

-- one character, RFC 3629's UTF8-char
abbrev pub well_char : List ℕ → Bool
well_char [] = false
well_char (b ∷ bs) = whole bs (lead_from b)
