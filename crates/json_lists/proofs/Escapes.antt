-- "escaping only the quotation mark and the backslash, by a backslash before each, and codes below 20 hexadecimal, by `\u00` and two
-- small hexadecimal digits"
use Prim.Native.Nat.{ℕ, ◌+◌, ◌*◌, ◌/◌, ◌%◌, ◌<◌}
use native.Mathlib.Omega.{arith}
use mathlib.Core.Path.{◌≡◌, refl, ap}
use mathlib.Core.Logic.{◌↔◌}
use mathlib.Core.Bool.{Bool, true, false, cond, not, ◌&&◌, ◌||◌}
use mathlib.Core.List.{[], ◌∷◌}
use lib.Dec.{T, ltb, eqb}
use lib.ListN.{length}
use borrow.Author.Tests.{eqb-true, ne_eqb, lt-ltb}
use Rattle.buffers.proofs.Tests.{known}
use Rattle.characters.specs.Form.{within}
use Rattle.characters.proofs.Bytes.{each_at}
use Rattle.json_lists.specs.Form.{is_hex, value_of_hex}
use Rattle.json_lists.specs.Grammar.{is_raw, Hex4, hex4}
use Rattle.json_lists.specs.Written.{hex_digit_of, escaped}

-- ---- what is written as it is

-- A byte that passes none of the three tests is written as it is.
pub escaped_raw : (b : ℕ) → eqb b 0x22 ≡ false → eqb b 0x5C ≡ false → ltb b 0x20 ≡ false → escaped b ≡ b ∷ []
unfolding escaped
escaped_raw b e f g = rw (e, f, g)

-- Exactly the bytes that the grammar has unescaped are written as they are.
pub only_raw : (b : ℕ) → (escaped b ≡ b ∷ []) ↔ T (is_raw b)
unfolding escaped is_raw
only_raw b = go (eqb b 0x22) (eqb b 0x5C) (ltb b 0x20)
  where
    -- what the three tests decide
    go : (x y z : Bool)
        → (cond (x || y) (0x5C ∷ b ∷ []) (cond z (0x5C ∷ 0x75 ∷ 0x30 ∷ 0x30 ∷ hex_digit_of (b / 16) ∷ hex_digit_of (b % 16) ∷ []) (b ∷ [])) ≡ b ∷ [])
        ↔ T (not x && (not y && not z))
    go true y z = (λ e. let k = ap length e in absurd (omega arith), λ h. absurd h)
    go false true z = (λ e. let k = ap length e in absurd (omega arith), λ h. absurd h)
    go false false true = (λ e. let k = ap length e in absurd (omega arith), λ h. absurd h)
    go false false false = (λ e. tt, λ h. refl)

-- ---- the quotation mark and the backslash

-- A backslash stands before the quotation mark.
pub quotation_mark_escaped : escaped 0x22 ≡ 0x5C ∷ 0x22 ∷ []
unfolding escaped
quotation_mark_escaped = refl

-- A backslash stands before the backslash.
pub backslash_escaped : escaped 0x5C ≡ 0x5C ∷ 0x5C ∷ []
unfolding escaped
backslash_escaped = refl

-- ---- codes below 20

-- the digit is one of 0 to 9 or a to f
abbrev pub is_small_hex : ℕ → Bool
is_small_hex d = within 0x30 0x39 d || within 0x61 0x66 d

-- A written hexadecimal digit is small.
pub small_hex : (n : ℕ) → n < 16 → T (is_small_hex (hex_digit_of n))
unfolding hex_digit_of within
small_hex n h = known (each_at (λ n. is_small_hex (hex_digit_of n)) 0 16 n refl (omega arith) (omega arith))

-- It is read as the value that it was written for.
pub hex_digit : (n : ℕ) → n < 16 → (is_hex (hex_digit_of n) ≡ true) × (value_of_hex (hex_digit_of n) ≡ n)
unfolding hex_digit_of value_of_hex is_hex
hex_digit n h = (
  each_at (λ n. is_hex (hex_digit_of n)) 0 16 n refl (omega arith) (omega arith),
  eqb-true (value_of_hex (hex_digit_of n)) n (each_at (λ n. eqb (value_of_hex (hex_digit_of n)) n) 0 16 n refl (omega arith) (omega arith)),
)

-- A code is written by `\u00` and two small hexadecimal digits, which have its value.
pub record ByNumber (b : ℕ) : Type 0 where
  pub first : ℕ
  pub second : ℕ
  pub is : escaped b ≡ 0x5C ∷ 0x75 ∷ 0x30 ∷ 0x30 ∷ first ∷ second ∷ []
  pub first_small : T (is_small_hex first)
  pub second_small : T (is_small_hex second)
  pub value : Hex4 (0x30 ∷ 0x30 ∷ first ∷ second ∷ []) b

-- Every code below 20 hexadecimal is written so.
pub control_escaped : (b : ℕ) → b < 0x20 → ByNumber b
unfolding escaped is_hex value_of_hex
control_escaped b h =
    let (x, v) = hex_digit (b / 16) (omega arith) in
    let (y, w) = hex_digit (b % 16) (omega arith) in
    let c = hex_digit_of (b / 16) in
    let d = hex_digit_of (b % 16) in
    let z : ((value_of_hex 0x30 * 16 + value_of_hex 0x30) * 16 + value_of_hex c) * 16 + value_of_hex d ≡ b = omega arith in
    record {
      first = c;
      second = d;
      is = rw (ne_eqb b 0x22 (λ e. omega arith), ne_eqb b 0x5C (λ e. omega arith), lt-ltb b 0x20 h);
      first_small = small_hex (b / 16) (omega arith);
      second_small = small_hex (b % 16) (omega arith);
      value = rw z at (hex4 {a = 0x30} {b = 0x30} {c = c} {d = d} tt tt (known x) (known y));
    }
