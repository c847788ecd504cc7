-- Values, and what stands behind each.
use Rattle.std.specs.Prelude.{◌≡◌, ℕ, ◌+◌, ◌-◌, ◌<◌, ◌≤◌, List, [], ◌∷◌, length, take, drop, set}
use native.Mathlib.Omega.{arith}
use mathlib.Core.Path.{ap, ◌∙◌}
use lib.ListN.{length-set}
use Rattle.record.specs.declared.inner.Kind.{Kind}
use Rattle.record.specs.declared.inner.Kind.TheVariants.{Retain, Insert, Delete}
use Rattle.json_lists.specs.Written.{decimal}
use Rattle.json_write_text.specs.InnerPutting.{Puts, quoted}
use Rattle.json_write.specs.InnerWriting.{negative, value_of, bytes_of_text}
use Rattle.json_write_text.proofs.Putting.{puts_one, puts_join, puts_long}

-- ---- negative numbers

module _ (o : List ℕ) (at n : ℕ) where
  pub minus_first : at + length (negative n) ≤ length o → at < length o
  unfolding negative
  minus_first r = omega arith

  pub minus_room : at + length (negative n) ≤ length o → at + 1 + length (decimal n) ≤ length (set o at 0x2D)
  unfolding negative
  minus_room r = simp length-set (omega arith)

  pub minus_same : (to : ℕ) (o₁ : List ℕ) → Puts (at + 1) (decimal n) (set o at 0x2D) to o₁ → length o₁ ≡ length o
  minus_same to o₁ p = puts_long p ∙ length-set o at 0x2D

  pub minus_puts : (to : ℕ) (o₁ : List ℕ) → Puts (at + 1) (decimal n) (set o at 0x2D) to o₁ → Puts at (negative n) o to o₁
  unfolding negative
  minus_puts to o₁ p = puts_join at (at + 1) to (0x2D ∷ []) (decimal n) o (set o at 0x2D) o₁ (puts_one at 0x2D o) p

-- ---- a value by its kind

module _ (o : List ℕ) (at : ℕ) (r : List ℕ) (from : ℕ) (kind : Kind) (count : ℕ) where
  module _ (h : kind ≡ Retain) where
    retain_is : value_of kind count (drop from r) ≡ decimal count
    unfolding value_of
    retain_is = rw h

    pub retain_room : at + length (value_of kind count (drop from r)) ≤ length o → at + length (decimal count) ≤ length o
    retain_room l = rw retain_is at l

    pub retain_puts : (to : ℕ) (o₁ : List ℕ) → Puts at (decimal count) o to o₁ → Puts at (value_of kind count (drop from r)) o to o₁
    retain_puts to o₁ p = rw retain_is p

  module _ (h : kind ≡ Insert) where
    insert_is : value_of kind count (drop from r) ≡ quoted (take (from + count - from) (drop from r))
    unfolding value_of
    insert_is = let z : count ≡ from + count - from = omega arith in rw h (ap (λ n. quoted (take n (drop from r))) z)

    pub insert_inside : from + bytes_of_text kind count ≤ length r → from + count ≤ length r
    insert_inside l = rw h at l

    pub insert_room : at + length (value_of kind count (drop from r)) ≤ length o → at + length (quoted (take (from + count - from) (drop from r))) ≤ length o
    insert_room l = rw insert_is at l

    pub insert_puts : (to : ℕ) (o₁ : List ℕ) → Puts at (quoted (take (from + count - from) (drop from r))) o to o₁ → Puts at (value_of kind count (drop from r)) o to o₁
    insert_puts to o₁ p = rw insert_is p

  module _ (h : kind ≡ Delete) where
    delete_is : value_of kind count (drop from r) ≡ negative count
    unfolding value_of
    delete_is = rw h

    pub delete_room : at + length (value_of kind count (drop from r)) ≤ length o → at + length (negative count) ≤ length o
    delete_room l = rw delete_is at l

    pub delete_puts : (to : ℕ) (o₁ : List ℕ) → Puts at (negative count) o to o₁ → Puts at (value_of kind count (drop from r)) o to o₁
    delete_puts to o₁ p = rw delete_is p
