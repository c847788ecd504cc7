-- Bits of two numbers laid over each other.
use Prim.Native.Nat.{ℕ, ◌+◌, ◌-◌, ◌/◌, ◌%◌, ◌^◌, ◌<◌, min, max, zero, suc}
use native.Mathlib.Nat.{pow-suc}
use native.Mathlib.Omega.{arith}
use mathlib.Core.Path.{◌≡◌, ap, ap₂, ◌∙◌, refl, sym}
use lib.Arith.{bin_ind}
use lib.Bits.{bit_and, bit_or, and_step, or_step, and_zero_r, or_add_and, and_le_l, and_le_r}
use mathlib.Core.Bool.{◌&&◌}
use lib.Dec.{eqb}
use borrow.Author.Tests.{ne_eqb}

-- a mask is laid over each apart
and_or : (m a b : ℕ) → bit_and (bit_or a b) m ≡ bit_or (bit_and a m) (bit_and b m)
and_or =
    bin_ind
    (λ (m : ℕ). (a b : ℕ) → bit_and (bit_or a b) m ≡ bit_or (bit_and a m) (bit_and b m))
    (λ a b. rw (and_zero_r (bit_or a b), and_zero_r a, and_zero_r b))
    step
  where
    step : (m : ℕ) → ((a b : ℕ) → bit_and (bit_or a b) (m / 2) ≡ bit_or (bit_and a (m / 2)) (bit_and b (m / 2))) → (a b : ℕ) → bit_and (bit_or a b) m ≡ bit_or (bit_and a m) (bit_and b m)
    step m ih a b =
        let x : bit_or a b / 2 ≡ bit_or (a / 2) (b / 2) = omega (arith, or_step a b) in
        let y : bit_and a m / 2 ≡ bit_and (a / 2) (m / 2) = omega (arith, and_step a m) in
        let z : bit_and b m / 2 ≡ bit_and (b / 2) (m / 2) = omega (arith, and_step b m) in
        let p = ap (λ w. bit_and w (m / 2)) x ∙ ih (a / 2) (b / 2) in
        let q = ap₂ bit_or y z in
        omega (arith, p, q, and_step (bit_or a b) m, or_step (bit_and a m) (bit_and b m), or_step a b, and_step a m, and_step b m)

pub or_none : (x y : ℕ) → bit_or x y ≡ 0 → (x ≡ 0) × (y ≡ 0)
or_none x y e =
    let s = or_add_and x y in
    (omega (arith, and_le_r x y), omega (arith, and_le_l x y))

pub or_zero : (x y : ℕ) → eqb (bit_or x y) 0 ≡ (eqb x 0 && eqb y 0)
or_zero zero y = refl
or_zero (suc x) y =
    ne_eqb (bit_or (suc x) y) 0 (λ z. absurd (omega (arith, or_none (suc x) y z)))
    ∙ ap (λ b. b && eqb y 0) (sym (ne_eqb (suc x) 0 (λ z. absurd (omega arith))))

-- none of the mask's bits is set in both exactly where none is set in either
pub mask_or : (x y m : ℕ) → eqb (bit_and (bit_or x y) m) 0 ≡ (eqb (bit_and x m) 0 && eqb (bit_and y m) 0)
mask_or x y m = ap (λ z. eqb z 0) (and_or m x y) ∙ or_zero (bit_and x m) (bit_and y m)

-- the complement of bits that are set in x and clear in y
apart : (a b c d : ℕ) → a + b ≡ 1 → c + d ≡ 1 → min a d + max b c ≡ 1
apart a b c d p q = omega arith

opposite : (k x x' y y' : ℕ) → x + x' + 1 ≡ 2 ^ k → y + y' + 1 ≡ 2 ^ k → bit_and x y' + bit_or x' y + 1 ≡ 2 ^ k
opposite zero x x' y y' p q =
    let e : x ≡ 0 = omega arith in
    let f : x' ≡ 0 = omega arith in
    let g : y ≡ 0 = omega arith in
    rw (e, f, g) refl
opposite (suc k) x x' y y' p q =
    let s = pow-suc 2 k in
    let a : x / 2 + x' / 2 + 1 ≡ 2 ^ k = omega arith in
    let b : y / 2 + y' / 2 + 1 ≡ 2 ^ k = omega arith in
    let c = apart (x % 2) (x' % 2) (y % 2) (y' % 2) (omega arith) (omega arith) in
    omega (arith, opposite k (x / 2) (x' / 2) (y / 2) (y' / 2) a b, and_step x y', or_step x' y)

pub not_and : (k x y : ℕ) → x < 2 ^ k → y < 2 ^ k → 2 ^ k - 1 - bit_and x (2 ^ k - 1 - y) ≡ bit_or (2 ^ k - 1 - x) y
not_and k x y p q = omega (arith, opposite k x (2 ^ k - 1 - x) y (2 ^ k - 1 - y) (omega arith) (omega arith))
