-- A scalar value's bytes, by its size; and back.
use Prim.Native.Nat.{ℕ, ◌+◌, ◌/◌, ◌≤◌}
use native.Mathlib.Nat.{div-div-eq-div-mul}
use native.Mathlib.Omega.{arith}
use mathlib.Core.Path.{◌≡◌, refl, sym, ap, ◌∙◌}
use mathlib.Core.Logic.{◌⊎◌, inl, inr, ⊎_elim}
use mathlib.Core.Bool.{Bool, true, false, ◌||◌}
use mathlib.Core.List.{[], ◌∷◌}
use lib.Dec.{T}
use borrow.Author.Tests.{le-leb, lt-leb}
use Rattle.characters.specs.Form.{within}
use Rattle.characters.proofs.Leads.{le_or_lt, inside, within_bounds}
use Rattle.buffers.proofs.Tests.{known}
use Rattle.characters.specs.Scalar.{is_scalar, tail_byte, encode_scalar, decode_scalar}

module _ (v : ℕ) where
  pub encode_1 : v ≤ 0x7F → encode_scalar v ≡ v ∷ []
  unfolding encode_scalar
  encode_1 h = rw (le-leb v 0x7F h)

  pub encode_2 : 0x80 ≤ v → v ≤ 0x7FF → encode_scalar v ≡ (0xC0 + v / 64) ∷ tail_byte v ∷ []
  unfolding encode_scalar
  encode_2 l h = rw (lt-leb v 0x7F l, le-leb v 0x7FF h)

  pub encode_3 : 0x800 ≤ v → v ≤ 0xFFFF → encode_scalar v ≡ (0xE0 + v / 4096) ∷ tail_byte (v / 64) ∷ tail_byte v ∷ []
  unfolding encode_scalar
  encode_3 l h = rw (lt-leb v 0x7F (omega arith), lt-leb v 0x7FF l, le-leb v 0xFFFF h)

  pub encode_4 : 0x10000 ≤ v → encode_scalar v ≡ (0xF0 + v / 262144) ∷ tail_byte (v / 4096) ∷ tail_byte (v / 64) ∷ tail_byte v ∷ []
  unfolding encode_scalar
  encode_4 l = rw (lt-leb v 0x7F (omega arith), lt-leb v 0x7FF (omega arith), lt-leb v 0xFFFF l)

  -- ---- what the bytes are read as
  read_1 : v ≤ 0x7F → decode_scalar (encode_scalar v) ≡ v
  unfolding decode_scalar
  read_1 h = rw (encode_1 h)

  read_2 : 0x80 ≤ v → v ≤ 0x7FF → decode_scalar (encode_scalar v) ≡ v
  unfolding decode_scalar
  read_2 l h = rw (encode_2 l h) (omega arith)

  read_3 : 0x800 ≤ v → v ≤ 0xFFFF → decode_scalar (encode_scalar v) ≡ v
  unfolding decode_scalar
  read_3 l h = rw (encode_3 l h) (omega arith)

  read_4 : 0x10000 ≤ v → decode_scalar (encode_scalar v) ≡ v
  unfolding decode_scalar
  read_4 l = rw (encode_4 l) (omega (arith, div-div-eq-div-mul v 4096 64, div-div-eq-div-mul v 64 64))

  -- reading a value's bytes gives the value
  pub decode_encode : decode_scalar (encode_scalar v) ≡ v
  decode_encode =
      ⊎_elim read_1 (λ a. ⊎_elim (read_2 a) (λ b. ⊎_elim (read_3 b) read_4 (le_or_lt v 0xFFFF)) (le_or_lt v 0x7FF)) (le_or_lt v 0x7F)

  -- ---- which numbers are scalar values
  pub scalar_low : v ≤ 0xD7FF → T (is_scalar v)
  unfolding is_scalar
  scalar_low h = rw (inside 0 0xD7FF v (omega arith) h) tt

  pub scalar_high : 0xE000 ≤ v → v ≤ 0x10FFFF → T (is_scalar v)
  unfolding is_scalar
  scalar_high l h = go (within 0 0xD7FF v)
    where
      go : (t : Bool) → T (t || within 0xE000 0x10FFFF v)
      go true = tt
      go false = known (inside 0xE000 0x10FFFF v l h)

  pub scalar_is : T (is_scalar v) → (v ≤ 0xD7FF) ⊎ ((0xE000 ≤ v) × (v ≤ 0x10FFFF))
  unfolding is_scalar
  scalar_is h = go (within 0 0xD7FF v) refl h
    where
      go : (t : Bool) → within 0 0xD7FF v ≡ t → T (t || within 0xE000 0x10FFFF v) → (v ≤ 0xD7FF) ⊎ ((0xE000 ≤ v) × (v ≤ 0x10FFFF))
      go true e h = inl (within_bounds 0 0xD7FF v (known e)).1
      go false e h = inr (within_bounds 0xE000 0x10FFFF v h)

-- different values have different bytes
pub encode_inj : (v w : ℕ) → encode_scalar v ≡ encode_scalar w → v ≡ w
encode_inj v w e = sym (decode_encode v) ∙ ap decode_scalar e ∙ decode_encode w
