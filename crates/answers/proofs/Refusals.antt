-- What a chain of refusals tells.
use Prim.Native.Nat.{ℕ, suc, zero}
use native.Mathlib.Nat.{suc-ne-zero}
use mathlib.Core.Path.{◌≡◌, refl}
use mathlib.Core.Bool.{Bool, true, false}
use lib.Dec.{T}
use Rattle.answers.specs.Answer.{needs, or_else}

pub needs_out : (t : Bool) (n k : ℕ) → needs t (suc n) k ≡ 0 → T t × (k ≡ 0)
needs_out true n k e = (tt, e)
needs_out false n k e = absurd (suc-ne-zero n e)

pub needs_in : (t : Bool) (n k : ℕ) → T t → needs t n k ≡ k
needs_in true n k h = refl
needs_in false n k h = absurd h

pub first_zero : (a b : ℕ) → or_else a b ≡ 0 → (a ≡ 0) × (b ≡ 0)
first_zero zero b e = (refl, e)
first_zero (suc a) b e = absurd (suc-ne-zero a e)
