-- RFC 3629, section 7, and the ends of each row of section 3.
use mathlib.Core.Path.{◌≡◌, refl}
use mathlib.Core.Bool.{true, false}
use mathlib.Core.List.{[], ◌∷◌}
use Rattle.characters.specs.Form.{within}
use Rattle.characters.specs.Scalar.{is_scalar, encode_scalar}
use Rattle.characters.proofs.Scalars.{encode_scalars}

-- "A<NOT IDENTICAL TO><ALPHA>."
pub not_identical : encode_scalars (0x0041 ∷ 0x2262 ∷ 0x0391 ∷ 0x002E ∷ []) ≡ 0x41 ∷ 0xE2 ∷ 0x89 ∷ 0xA2 ∷ 0xCE ∷ 0x91 ∷ 0x2E ∷ []
unfolding encode_scalar
not_identical = refl

-- "the Chinese character meaning 'stump of tree' (prepended with a UTF-8 BOM)"
pub stump_of_tree : encode_scalars (0xFEFF ∷ 0x233B4 ∷ []) ≡ 0xEF ∷ 0xBB ∷ 0xBF ∷ 0xF0 ∷ 0xA3 ∷ 0x8E ∷ 0xB4 ∷ []
unfolding encode_scalar
stump_of_tree = refl

pub lasts : encode_scalars (0x7F ∷ 0x7FF ∷ 0xFFFF ∷ 0x10FFFF ∷ []) ≡ 0x7F ∷ 0xDF ∷ 0xBF ∷ 0xEF ∷ 0xBF ∷ 0xBF ∷ 0xF4 ∷ 0x8F ∷ 0xBF ∷ 0xBF ∷ []
unfolding encode_scalar
lasts = refl

pub firsts : encode_scalars (0x00 ∷ 0x80 ∷ 0x800 ∷ 0x10000 ∷ []) ≡ 0x00 ∷ 0xC2 ∷ 0x80 ∷ 0xE0 ∷ 0xA0 ∷ 0x80 ∷ 0xF0 ∷ 0x90 ∷ 0x80 ∷ 0x80 ∷ []
unfolding encode_scalar
firsts = refl

pub no_surrogates : (is_scalar 0xD7FF ≡ true) × (is_scalar 0xD800 ≡ false) × (is_scalar 0xDFFF ≡ false) × (is_scalar 0xE000 ≡ true) × (is_scalar 0x10FFFF ≡ true) × (is_scalar 0x110000 ≡ false)
unfolding is_scalar within
no_surrogates = (refl, refl, refl, refl, refl, refl)
