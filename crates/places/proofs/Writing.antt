-- One operation and a group of them, at their places in the buffer.
use Rattle.std.specs.Prelude.{◌≡◌, ℕ, zero, suc, ◌+◌, ◌*◌, ◌/◌, ◌%◌, ◌<◌, ◌≤◌, Bool, true, false, ◌&&◌, T, leb, List, [], ◌∷◌, length, set}
use mathlib.Core.Path.{ap, refl, sym, ap₂, ◌∙◌}
use native.Mathlib.Omega.{arith}
use lib.ListN.{length-set}
use native.Mathlib.Nat.{add-zero}
use lib.Dec.{leb→le}
use borrow.Author.Tests.{le-leb, lt-leb}
use Rattle.buffers.specs.InnerOver.{over, bytes16}
use Rattle.buffers.proofs.Over.{put_in, put16_both, over_swap, over_again, over_none}
use Rattle.buffers.proofs.Tests.{known, le_and}
use Rattle.edits.proofs.Meaning.{if_zero_elim}
use Rattle.record.specs.Layout.{kinds_start, counts_start}
use Rattle.places.specs.InnerOps.{one, written_op, written_op_if_any, flushed_at}

pub one_none : (c : ℕ) → c ≡ 0 → one c ≡ 0
one_none c e = ap one e

pub one_some : (c : ℕ) → 0 < c → one c ≡ 1
one_some zero h = absurd (omega arith)
one_some (suc c) h = refl

pub one_few : (c : ℕ) → one c ≤ 1
one_few zero = omega arith
one_few (suc c) = omega arith

-- ---- `write_op`, `write_op_if_any`

module _ (n k kind c : ℕ) (o : List ℕ) where
  enter_both : {i j : ℕ} {o₁ o₂ : List ℕ} → i ≡ kinds_start + k → j ≡ counts_start n + 2 * k → o₁ ≡ over i (kind ∷ []) o → o₂ ≡ over j (bytes16 c) o₁ → o₂ ≡ written_op n k kind c o
  enter_both f g p q = q ∙ ap₂ (λ j o. over j (bytes16 c) o) g (p ∙ ap (λ i. over i (kind ∷ []) o) f)

  -- all three bytes have a place
  pub enter_in : {i j : ℕ} → i ≡ kinds_start + k → j ≡ counts_start n + 2 * k → set (set (set o i kind) j (c % 256)) (j + 1) (c / 256 % 256) ≡ written_op n k kind c o
  enter_in {i} {j} f g = enter_both f g (put_in o i kind) (put16_both j c (set o i kind) (put_in (set o i kind) j (c % 256)) (put_in _ (j + 1) (c / 256 % 256)))

  pub enter_low : {j : ℕ} (i : ℕ) → counts_start n + 2 * k + 1 < length o → j ≡ counts_start n + 2 * k → j < length (set o i kind)
  enter_low i h g = omega (arith, length-set o i kind)

  pub enter_high : {j : ℕ} (i v : ℕ) → counts_start n + 2 * k + 1 < length o → j ≡ counts_start n + 2 * k → j + 1 < length (set (set o i kind) j v)
  enter_high {j} i v h g = omega (arith, length-set o i kind, length-set (set o i kind) j v)

  pub emitted_none : c ≡ 0 → written_op_if_any n k kind c o ≡ o
  unfolding written_op_if_any
  emitted_none e = rw e

  pub emitted_some : 0 < c → written_op_if_any n k kind c o ≡ written_op n k kind c o
  unfolding written_op_if_any
  emitted_some h = if_zero_elim (λ q. q ≡ written_op n k kind c o) c (λ e. absurd (omega arith)) (λ _. refl)

  pub emit_none : c ≡ 0 → o ≡ written_op_if_any n k kind c o
  emit_none e = sym (emitted_none e)

  pub emit_some : {i j : ℕ} {o₁ o₂ : List ℕ} → (c ≡ 0 → ⊥) → i ≡ kinds_start + k → j ≡ counts_start n + 2 * k → o₁ ≡ over i (kind ∷ []) o → o₂ ≡ over j (bytes16 c) o₁
      → o₂ ≡ written_op_if_any n k kind c o
  emit_some z f g p q = enter_both f g p q ∙ sym (emitted_some (omega arith))

  pub emit_in : {i j : ℕ} → (c ≡ 0 → ⊥) → i ≡ kinds_start + k → j ≡ counts_start n + 2 * k → set (set (set o i kind) j (c % 256)) (j + 1) (c / 256 % 256) ≡ written_op_if_any n k kind c o
  emit_in z f g = enter_in f g ∙ sym (emitted_some (omega arith))

pub set_inside : (o : List ℕ) (i v j : ℕ) → j + 1 < length o → j < length (set o i v)
set_inside o i v j h = omega (arith, length-set o i v)

pub count_none : (k c : ℕ) → c ≡ 0 → k ≡ k + one c
count_none k c e = omega (arith, one_none c e)

pub count_some : (k c : ℕ) → (c ≡ 0 → ⊥) → k + 1 ≡ k + one c
count_some k c z = omega (arith, one_some c (omega arith))

-- ---- `flush`

module _ (ops ins del ret : ℕ) {x y : ℕ} (p : x ≡ ops + one ins) (q : y ≡ x + one del) where
  pub count_all : {z : ℕ} → z ≡ y + one ret → z ≡ ops + one ins + one del + one ret
  count_all r = simp (r, q, p)

  pub flush_all : (n : ℕ) (o : List ℕ) {o₁ o₂ o₃ : List ℕ} → o₁ ≡ written_op_if_any n ops 2 ins o → o₂ ≡ written_op_if_any n x 3 del o₁ → o₃ ≡ written_op_if_any n y 1 ret o₂
      → o₃ ≡ flushed_at n ops ins del ret o
  unfolding flushed_at
  flush_all n o f g h = simp (h, g, f, q, p)

-- ---- `write_group`

-- an operation over another at the same place
enter_again : (n k i c j d : ℕ) (o : List ℕ) → k < n → written_op n k i c (written_op n k j d o) ≡ written_op n k i c o
enter_again n k i c j d o h =
    let p = kinds_start + k in
    let q = counts_start n + 2 * k in
    ap (over q (bytes16 c)) (sym (over_swap p q (i ∷ []) (bytes16 d) (over p (j ∷ []) o) (omega arith)) ∙ ap (over q (bytes16 d)) (over_again p (i ∷ []) (j ∷ []) o refl))
    ∙ over_again q (bytes16 c) (bytes16 d) (over p (i ∷ []) o) refl

-- so where another follows, an operation of count 0 may be written, too
enter_next : (n k i c j d : ℕ) (o : List ℕ) → k < n → written_op n (k + one c) j d (written_op n k i c o) ≡ written_op n (k + one c) j d (written_op_if_any n k i c o)
unfolding written_op_if_any
enter_next n k i zero j d o h = rw (add-zero k) (enter_again n k j d i 0 o h)
enter_next n k i (suc c) j d o h = refl

pub close_count : (ops ins del ret : ℕ) {x y : ℕ} → 0 < ret → x ≡ one ins → y ≡ one del → ops + x + y + 1 ≡ ops + one ins + one del + one ret
close_count ops ins del ret r p q = simp (p, q, one_some ret r)

pub close_all : (n ops ins del ret : ℕ) (o : List ℕ) {x y : ℕ} {o₁ o₂ o₃ : List ℕ} → 0 < ret → ops + 2 < n → x ≡ one ins → y ≡ one del
    → o₁ ≡ written_op n ops 2 ins o → o₂ ≡ written_op n (ops + x) 3 del o₁ → o₃ ≡ written_op n (ops + x + y) 1 ret o₂ → o₃ ≡ flushed_at n ops ins del ret o
unfolding flushed_at
close_all n ops ins del ret o r h p q f g k =
    let x = ops + one ins in
    let u = written_op_if_any n ops 2 ins o in
    let v = g ∙ ap₂ (λ i l. written_op n (ops + i) 3 del l) p f ∙ enter_next n ops 2 ins 3 del o (omega arith) in
    k
    ∙ (λ i. written_op n (ops + p i + q i) 1 ret (v i))
    ∙ enter_next n x 3 del 1 ret u (omega (arith, one_few ins))
    ∙ sym (emitted_some n (x + one del) 1 ret (written_op_if_any n x 3 del u) r)

-- ---- `fits`

module _ (room n ops ret : ℕ) where
  abbrev fitting : Bool
  fitting = leb 1 ret && (leb (ops + 3) n && leb (counts_start n + 2 * ops + 6) room)

  pub fits_none : ret ≡ 0 → false ≡ fitting
  fits_none h = rw h

  pub fits_over : (ret ≡ 0 → ⊥) → n ≤ ops + 2 → false ≡ fitting
  fits_over h g = rw (le-leb 1 ret (omega arith), lt-leb (ops + 3) n (omega arith))

  pub fits_room : (x : ℕ) → (ret ≡ 0 → ⊥) → ops + 2 < n → x ≡ counts_start n + 2 * ops → leb (x + 6) room ≡ fitting
  fits_room x h g p = rw (le-leb 1 ret (omega arith), le-leb (ops + 3) n (omega arith), p)

  module _ (v : Bool) (p : v ≡ fitting) (y : v ≡ true) where
    fitted : (1 ≤ ret) × T (leb (ops + 3) n && leb (counts_start n + 2 * ops + 6) room)
    fitted = (le_and 1 ret _).0 (known (sym p ∙ y))

    pub fits_ret : 0 < ret
    fits_ret = fitted.0

    pub fits_few : ops + 2 < n
    fits_few = omega (arith, ((le_and (ops + 3) n _).0 fitted.1).0)

    pub fits_three : counts_start n + 2 * ops + 5 < room
    fits_three = omega (arith, leb→le (counts_start n + 2 * ops + 6) room ((le_and (ops + 3) n _).0 fitted.1).1)

-- ---- `one_if_any`

pub some_is : (c : ℕ) → (c ≡ 0 → ⊥) → 1 ≡ one c
some_is c z = sym (one_some c (omega arith))

-- ---- an empty buffer

pub emitted_over : (n k kind c : ℕ) → written_op_if_any n k kind c [] ≡ []
unfolding written_op_if_any
emitted_over n k kind c = if_zero_elim (λ q. q ≡ []) c (λ _. refl) (λ _. simp over_none)
