-- How long a text is where it is written.
use Prim.Native.Nat.{ℕ, ◌+◌, ◌*◌, ◌/◌, ◌%◌, ◌≤◌}
use native.Mathlib.Omega.{arith}
use mathlib.Core.Path.{◌≡◌, refl, ap, ap₂}
use mathlib.Core.Bool.{Bool, true, false, cond, ◌||◌}
use mathlib.Core.List.{List, [], ◌∷◌, ◌++◌, append_assoc}
use lib.Dec.{T, ltb, eqb}
use lib.ListN.{length, length-append}
use borrow.Author.Tests.{eqb-true, ltb-true}
use Rattle.buffers.specs.Lists.{all_of}
use Rattle.buffers.proofs.Tests.{both}
use Rattle.json_lists.specs.Grammar.{is_raw}
use Rattle.json_lists.specs.Written.{hex_digit_of, escaped, escaped_all}
use Rattle.json_lists.specs.InnerRuns.{extra_bytes}
use Rattle.json_lists.proofs.Escapes.{only_raw}

-- how many bytes one byte grows by where it is written
abbrev extra : ℕ → ℕ
extra b = cond (ltb b 0x20) 5 (cond (eqb b 0x22 || eqb b 0x5C) 1 0)

escaped_length : (b : ℕ) → length (escaped b) ≡ 1 + extra b
unfolding escaped
escaped_length b = go (eqb b 0x22) (eqb b 0x5C) (ltb b 0x20) refl refl refl
  where
    go : (x y z : Bool) → eqb b 0x22 ≡ x → eqb b 0x5C ≡ y → ltb b 0x20 ≡ z
        → length (cond (x || y) (0x5C ∷ b ∷ []) (cond z (0x5C ∷ 0x75 ∷ 0x30 ∷ 0x30 ∷ hex_digit_of (b / 16) ∷ hex_digit_of (b % 16) ∷ []) (b ∷ [])))
        ≡ 1 + cond z 5 (cond (x || y) 1 0)
    go true y true e f g = absurd (omega (arith, eqb-true b 0x22 e, ltb-true b 0x20 g))
    go true y false e f g = refl
    go false true true e f g = absurd (omega (arith, eqb-true b 0x5C f, ltb-true b 0x20 g))
    go false true false e f g = refl
    go false false true e f g = refl
    go false false false e f g = refl

-- A written text has its own bytes and the extra ones.
pub escaped_all_length : (u : List ℕ) → length (escaped_all u) ≡ length u + extra_bytes u
unfolding extra_bytes
escaped_all_length [] = refl
escaped_all_length (b ∷ u) = simp length-append (omega (arith, escaped_length b, escaped_all_length u))

-- no byte grows by more than 5
extra_most : (b : ℕ) → extra b ≤ 5
extra_most b = go (ltb b 0x20) (eqb b 0x22 || eqb b 0x5C)
  where
    go : (x y : Bool) → cond x 5 (cond y 1 0) ≤ 5
    go true y = omega arith
    go false true = omega arith
    go false false = omega arith

-- A text grows by at most five bytes for each of its own.
pub extra_bytes_most : (u : List ℕ) → extra_bytes u ≤ 5 * length u
unfolding extra_bytes
extra_bytes_most [] = omega arith
extra_bytes_most (b ∷ u) = omega (arith, extra_most b, extra_bytes_most u)

-- Two texts, one behind the other, are written one behind the other.
pub escaped_all_append : (u v : List ℕ) → escaped_all (u ++ v) ≡ escaped_all u ++ escaped_all v
escaped_all_append [] v = refl
escaped_all_append (b ∷ u) v = rw (escaped_all_append u v, append_assoc)

-- Two texts, one behind the other, grow by what each grows by.
pub extra_bytes_append : (u v : List ℕ) → extra_bytes (u ++ v) ≡ extra_bytes u + extra_bytes v
unfolding extra_bytes
extra_bytes_append [] v = omega arith
extra_bytes_append (b ∷ u) v = omega (arith, extra_bytes_append u v)

-- A text of bytes that need no escape is written as it is.
pub plain_extra : (u : List ℕ) → T (all_of is_raw u) → escaped_all u ≡ u
plain_extra [] h = refl
plain_extra (b ∷ u) h = let (r, k) = (both (is_raw b) (all_of is_raw u)).0 h in ap₂ ◌++◌ ((only_raw b).1 r) (plain_extra u k)

-- Such a text grows by no byte.
pub plain_none : (u : List ℕ) → T (all_of is_raw u) → extra_bytes u ≡ 0
plain_none u h = omega (arith, escaped_all_length u, ap length (plain_extra u h))
