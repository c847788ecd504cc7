-- Bytes told by bits and masks, and facts that are had by trying each byte.
use Rattle.std.specs.Prelude.{Some, None}
use Prim.Native.Nat.{ℕ, zero, suc, ◌+◌, ◌≤◌, ◌<◌, ◌-◌, ◌/◌}
use mathlib.Core.Bool.{Bool, true, ◌&&◌, beq, false, not, ◌||◌, false≢true}
use native.Mathlib.Omega.{arith}
use mathlib.Core.Path.{◌≡◌, refl, sym, ◌∙◌, ap, ap₂}
use mathlib.Core.Logic.{⊎_elim}
use lib.Dec.{eqb, ltb, leb}
use lib.Bits.{bit_and, bit_or}
use borrow.Author.Tests.{eqb-true, not-true, eq-eqb, lt-ltb, le-ltb, ne_eqb, leb-false}
use Rattle.buffers.proofs.Tests.{beq_true, known, or_split}
use Rattle.characters.specs.Form.{within, lead_from, rows, lead_in, Lead}
use Rattle.characters.specs.Chars.{is_continuation}
use Rattle.characters.specs.InnerBlock.{bit_of, Tells, mask_of, due_of, invalid_byte_of, outside_of, misplaced_of}
use Rattle.characters.proofs.Leads.{le_or_lt, within_bounds}
use Rattle.characters.proofs.Chars.{split}
use Rattle.characters.proofs.Bits.{or_zero}

-- ---- each byte tried

-- f holds of the n numbers from lo on
abbrev pub each : (ℕ → Bool) → ℕ → ℕ → Bool
each f lo zero = true
each f lo (suc n) = f lo && each f (suc lo) n

pub each_at : (f : ℕ → Bool) (lo n b : ℕ) → each f lo n ≡ true → lo ≤ b → b < lo + n → f b ≡ true
each_at f lo zero b e l h = absurd (omega arith)
each_at f lo (suc n) b e l h =
    let (p, q) = split (f lo) (each f (suc lo) n) e in
    ⊎_elim (λ k. each_at f (suc lo) n b q k (omega arith)) (λ k. let z : lo ≡ b = omega arith in rw z at p) (le_or_lt (suc lo) b)

-- C0 and C1 differ in the lowest bit only
pair : (b : ℕ) → b < 256 → eqb (bit_and b 0xFE) 0xC0 ≡ within 0xC0 0xC1 b
unfolding within
pair b h = beq_true _ _ (each_at (λ b. beq (eqb (bit_and b 0xFE) 0xC0) (within 0xC0 0xC1 b)) 0 256 b refl (omega arith) h)

-- the two top bits are 1 and 0
pub is_cont_bit : (b : ℕ) → b < 256 → bit_and (bit_and (b / 128) ((255 - b) / 64)) 1 ≡ bit_of (is_continuation b)
unfolding is_continuation within
is_cont_bit b h = eqb-true _ _ (each_at (λ b. eqb (bit_and (bit_and (b / 128) ((255 - b) / 64)) 1) (bit_of (is_continuation b))) 0 256 b refl (omega arith) h)

-- ---- what is 0

pub tells_not : {x : ℕ} {a : Bool} → Tells x a → x ≡ 0 → a ≡ false
tells_not {x} {a} p e = not-true a (sym p.zero ∙ eq-eqb x 0 e)

tells_over : (x b most : ℕ) → x ≡ b - most → Tells x (ltb most b)
tells_over x b most e =
    ⊎_elim
    (λ h. record { zero = ne_eqb x 0 (λ z. absurd (omega arith)) ∙ sym (ap not (lt-ltb most b h)) })
    (λ h. record { zero = eq-eqb x 0 (omega arith) ∙ sym (ap not (le-ltb most b (omega arith))) })
    (le_or_lt (suc most) b)

tells_mask : (x : ℕ) (a : Bool) → x ≡ mask_of a → Tells x a
tells_mask x a e = record { zero = ap (λ z. eqb z 0) e ∙ go a }
  where
    go : (a : Bool) → eqb (mask_of a) 0 ≡ not a
    go true = refl
    go false = refl

tells_and : (x y : ℕ) (a b : Bool) → x ≡ mask_of a → y ≡ mask_of b → Tells (bit_and x y) (a && b)
tells_and x y a b e f = record { zero = ap₂ (λ z w. eqb (bit_and z w) 0) e f ∙ go a b }
  where
    go : (a b : Bool) → eqb (bit_and (mask_of a) (mask_of b)) 0 ≡ not (a && b)
    go true true = refl
    go true false = refl
    go false true = refl
    go false false = refl

mask_not : (x : ℕ) (a : Bool) → x ≡ mask_of a → 255 - x ≡ mask_of (not a)
mask_not x true e = ap (λ z. 255 - z) e
mask_not x false e = ap (λ z. 255 - z) e

tells_or : {x y : ℕ} {a b : Bool} → Tells x a → Tells y b → Tells (bit_or x y) (a || b)
tells_or {x} {y} {a} {b} p q = record { zero = or_zero x y ∙ ap₂ ◌&&◌ p.zero q.zero ∙ go a }
  where
    go : (a : Bool) → (not a && not b) ≡ not (a || b)
    go true = refl
    go false = refl

pub told_due : (p3 p2 p1 : ℕ) {x y z : ℕ} → x ≡ p1 - 0xBF → y ≡ p2 - 0xDF → z ≡ p3 - 0xEF → Tells (bit_or (bit_or x y) z) (due_of p3 p2 p1)
unfolding due_of
told_due p3 p2 p1 {x} {y} {z} e f g = tells_or (tells_or (tells_over x p1 0xBF e) (tells_over y p2 0xDF f)) (tells_over z p3 0xEF g)

pub told_never : (b : ℕ) {x y : ℕ} → x ≡ mask_of (eqb (bit_and b 0xFE) 0xC0) → y ≡ b - 0xF4 → b < 256 → Tells (bit_or x y) (invalid_byte_of b)
unfolding invalid_byte_of
told_never b {x} {y} e f h = tells_or (tells_mask x (within 0xC0 0xC1 b) (e ∙ ap mask_of (pair b h))) (tells_over y b 0xF4 f)

module _ (p b : ℕ) where
  pub told_outside : {l m x y z w : ℕ} {u v : Bool} → u ≡ within 0x80 0x9F b → l ≡ mask_of u → v ≡ within 0x80 0x8F b → m ≡ mask_of v
      → x ≡ mask_of (eqb p 0xE0) → y ≡ mask_of (eqb p 0xED) → z ≡ mask_of (eqb p 0xF0) → w ≡ mask_of (eqb p 0xF4)
      → Tells (bit_or (bit_or (bit_or (bit_and x l) (bit_and y (255 - l))) (bit_and z m)) (bit_and w (255 - m))) (outside_of p b)
  unfolding outside_of
  told_outside {l} {m} {x} {y} {z} {w} e f g h i j k n =
      let low = within 0x80 0x9F b in
      let lowest = within 0x80 0x8F b in
      let c = f ∙ ap mask_of e in
      let d = h ∙ ap mask_of g in
      tells_or
      (tells_or
      (tells_or (tells_and x l (eqb p 0xE0) low i c) (tells_and y (255 - l) (eqb p 0xED) (not low) j (mask_not l low c)))
      (tells_and z m (eqb p 0xF0) lowest k d))
      (tells_and w (255 - m) (eqb p 0xF4) (not lowest) n (mask_not m lowest d))

  pub told_off : (p3 p2 : ℕ) {m n o d : ℕ} {u : Bool} → u ≡ is_continuation b → Tells d (due_of p3 p2 p) → m ≡ mask_of (beq u (eqb d 0)) → Tells n (invalid_byte_of b) → Tells o (outside_of p b) → Tells (bit_or (bit_or m n) o) (misplaced_of p3 p2 p b)
  unfolding misplaced_of
  told_off p3 p2 {m} e f g h i = tells_or (tells_or (tells_mask m (not (beq (is_continuation b) (due_of p3 p2 p))) (g ∙ ap₂ (λ x y. mask_of (beq x y)) e f.zero ∙ ap mask_of (unlike (is_continuation b) (due_of p3 p2 p)))) h) i
    where
      unlike : (x y : Bool) → beq x (not y) ≡ not (beq x y)
      unlike true true = refl
      unlike true false = refl
      unlike false true = refl
      unlike false false = refl

-- ---- behind a first byte

-- p begins a character of two to four bytes, and b may be the second
pub record Opened (p b : ℕ) : Type 0 where
  pub lo : ℕ
  pub hi : ℕ
  pub lead : lead_from p ≡ Some (suc (bit_of (leb 0xE0 p) + bit_of (leb 0xF0 p)), lo, hi)
  pub fits : within lo hi b ≡ true

opens : ℕ → ℕ → Lead → Bool
opens p b None = false
opens p b (Some (n, lo, hi)) = eqb n (suc (bit_of (leb 0xE0 p) + bit_of (leb 0xF0 p))) && within lo hi b

fits : ℕ → ℕ → Bool
fits p b = invalid_byte_of p || outside_of p b || opens p b (lead_from p)

all_fit : each (λ p. each (fits p) 0x80 64) 0xC0 53 ≡ true
unfolding lead_from lead_in rows within invalid_byte_of outside_of opens fits
all_fit = refl

pub opened : (p b : ℕ) → is_continuation b ≡ true → outside_of p b ≡ false → invalid_byte_of p ≡ false → 0xC0 ≤ p → Opened p b
unfolding is_continuation opens fits invalid_byte_of
opened p b c o e h =
    let (lo, hi) = within_bounds 0x80 0xBF b (known c) in
    let most = leb-false 0xF5 p (or_split (within 0xC0 0xC1 p) (leb 0xF5 p) e).1 in
    let test = each_at (fits p) 0x80 64 b (each_at (λ q. each (fits q) 0x80 64) 0xC0 53 p all_fit h (omega arith)) lo (omega arith) in
    go (lead_from p) refl (rw (e, o) at test)
  where
    go : (x : Lead) → lead_from p ≡ x → opens p b x ≡ true → Opened p b
    go None f t = absurd (false≢true t)
    go (Some (n, lo, hi)) f t =
        let (q, r) = split (eqb n (suc (bit_of (leb 0xE0 p) + bit_of (leb 0xF0 p)))) (within lo hi b) t in
        record { lo = lo; hi = hi; lead = f ∙ ap (λ k. Some (k, lo, hi)) (eqb-true n _ q); fits = r }
