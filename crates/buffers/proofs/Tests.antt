-- What a test tells.
use mathlib.Core.Logic.{◌↔◌}
use mathlib.Core.Bool.{Bool, true, false, ◌&&◌, beq, false≢true, ◌||◌, true≢false}
use lib.Dec.{T, leb, leb→le, le→leb, eqb, eqb→eq}
use mathlib.Core.Path.{◌≡◌, refl}
use Prim.Native.Nat.{ℕ, ◌≤◌}
use borrow.Author.Tests.{eq-eqb}

pub both : (a b : Bool) → T (a && b) ↔ (T a × T b)
both true b = (λ h. (tt, h), λ h. h.1)
both false b = (λ h. absurd h, λ h. h.0)

pub holds : (b : Bool) → T b → b ≡ true
holds true h = refl
holds false h = absurd h

pub known : {b : Bool} → b ≡ true → T b
known e = rw e tt

-- a bound in front of further tests
pub le_and : (a b : ℕ) (t : Bool) → T (leb a b && t) ↔ ((a ≤ b) × T t)
le_and a b t =
    (λ h. let k = (both (leb a b) t).0 h in (leb→le a b k.0, k.1), λ h. (both (leb a b) t).1 (le→leb a b h.0, h.1))

pub eq_and : (a b : ℕ) (t : Bool) → T (eqb a b && t) ↔ ((a ≡ b) × T t)
eq_and a b t =
    (λ h. let k = (both (eqb a b) t).0 h in (eqb→eq a b k.0, k.1), λ h. (both (eqb a b) t).1 (known (eq-eqb a b h.0), h.1))

pub equal_T : {a b : ℕ} → a ≡ b → T (eqb a b)
equal_T {a} {b} e = known (eq-eqb a b e)

pub beq_true : (a b : Bool) → beq a b ≡ true → a ≡ b
beq_true true true e = refl
beq_true true false e = absurd (false≢true e)
beq_true false true e = absurd (false≢true e)
beq_true false false e = refl

pub or_split : (a b : Bool) → (a || b) ≡ false → (a ≡ false) × (b ≡ false)
or_split true b e = absurd (true≢false e)
or_split false b e = (refl, e)
