-- The bytes of a scalar value, written one behind another.
use Rattle.std.specs.Prelude.{◌≡◌, ℕ, ◌+◌, ◌/◌, ◌%◌, ◌<◌, ◌≤◌, List, [], ◌∷◌, ◌++◌, length, set}
use native.Mathlib.Omega.{arith}
use mathlib.Core.Path.{refl, sym, ap, ◌∙◌}
use Rattle.buffers.specs.InnerOver.{over}
use Rattle.buffers.proofs.Over.{over_join, put_in}
use Rattle.characters.specs.Scalar.{encode_scalar}
use Rattle.characters.proofs.Codes.{encode_1, encode_2, encode_3, encode_4}

-- one byte behind others
set_behind : (at : ℕ) (xs o : List ℕ) (k b : ℕ) → length xs ≡ k → set (over at xs o) (at + k) b ≡ over at (xs ++ (b ∷ [])) o
set_behind at xs o k b e =
    put_in (over at xs o) (at + k) b ∙ ap (λ n. over (at + n) (b ∷ []) (over at xs o)) (sym e) ∙ over_join at xs (b ∷ []) o

module _ (o : List ℕ) (at a b : ℕ) where
  two_set : set (set o at a) (at + 1) b ≡ over at (a ∷ b ∷ []) o
  two_set = rw (put_in o at a) (set_behind at (a ∷ []) o 1 b refl)

  three_set : (c : ℕ) → set (set (set o at a) (at + 1) b) (at + 2) c ≡ over at (a ∷ b ∷ c ∷ []) o
  three_set c = rw two_set (set_behind at (a ∷ b ∷ []) o 2 c refl)

  four_set : (c d : ℕ) → set (set (set (set o at a) (at + 1) b) (at + 2) c) (at + 3) d ≡ over at (a ∷ b ∷ c ∷ d ∷ []) o
  four_set c d = rw (three_set c) (set_behind at (a ∷ b ∷ c ∷ []) o 3 d refl)

module _ (o : List ℕ) (at v : ℕ) where
  pub set_1 : v < 0x80 → set o at v ≡ over at (encode_scalar v) o
  set_1 h = rw (encode_1 v (omega arith)) (put_in o at v)

  pub set_2 : 0x80 ≤ v → v < 0x800 → set (set o at (0xC0 + v / 64)) (at + 1) (0x80 + v % 64) ≡ over at (encode_scalar v) o
  set_2 l h = rw (encode_2 v l (omega arith)) (two_set o at _ _)

  pub set_3 : 0x800 ≤ v → v < 0x10000
      → set (set (set o at (0xE0 + v / 4096)) (at + 1) (0x80 + v / 64 % 64)) (at + 2) (0x80 + v % 64) ≡ over at (encode_scalar v) o
  set_3 l h = rw (encode_3 v l (omega arith)) (three_set o at _ _ _)

  pub set_4 : 0x10000 ≤ v
      → set (set (set (set o at (0xF0 + v / 262144)) (at + 1) (0x80 + v / 4096 % 64)) (at + 2) (0x80 + v / 64 % 64))
      (at + 3) (0x80 + v % 64)
      ≡ over at (encode_scalar v) o
  set_4 l = rw (encode_4 v l) (four_set o at _ _ _ _)

-- how many bytes it has
module _ (at v : ℕ) where
  pub behind_1 : v < 0x80 → at + 1 ≡ at + length (encode_scalar v)
  behind_1 h = rw (encode_1 v (omega arith))

  pub behind_2 : 0x80 ≤ v → v < 0x800 → at + 2 ≡ at + length (encode_scalar v)
  behind_2 l h = rw (encode_2 v l (omega arith))

  pub behind_3 : 0x800 ≤ v → v < 0x10000 → at + 3 ≡ at + length (encode_scalar v)
  behind_3 l h = rw (encode_3 v l (omega arith))

  pub behind_4 : 0x10000 ≤ v → at + 4 ≡ at + length (encode_scalar v)
  behind_4 l = rw (encode_4 v l)

  module _ (n : ℕ) (r : at + length (encode_scalar v) ≤ n) where
    pub room_1 : v < 0x80 → at < n
    room_1 h = omega (arith, behind_1 h)

    pub room_2 : 0x80 ≤ v → v < 0x800 → at + 2 ≤ n
    room_2 l h = omega (arith, behind_2 l h)

    pub room_3 : 0x800 ≤ v → v < 0x10000 → at + 3 ≤ n
    room_3 l h = omega (arith, behind_3 l h)

    pub room_4 : 0x10000 ≤ v → at + 4 ≤ n
    room_4 l = omega (arith, behind_4 l)
