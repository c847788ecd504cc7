-- Texts, with what is escaped in them.
use Prim.Native.Nat.{ℕ, suc, ◌+◌, ◌/◌, ◌%◌, ◌≤◌, ◌<◌}
use native.Mathlib.Omega.{arith}
use mathlib.Core.Path.{◌≡◌, refl, sym, ap, ap₂, ◌∙◌}
use mathlib.Core.Bool.{Bool, true, false, cond, not, ◌&&◌, ◌||◌, and-true}
use mathlib.Core.List.{List, [], ◌∷◌, ◌++◌}
use lib.Bits.{bit_or}
use lib.Dec.{ltb, eqb}
use lib.ListN.{length, set, get_or, take, drop, length-drop}
use lib.Seq.{take-suc, take-add, drop-drop, length-take-le, get_or-drop}
use borrow.Author.Tests.{lt-ltb, le-ltb, eq-eqb, ne_eqb}
use Rattle.std.specs.Int.{from_bool}
use Rattle.buffers.specs.Lists.{all_of}
use Rattle.buffers.specs.InnerOver.{over}
use Rattle.buffers.proofs.Over.{over_at, put_in}
use Rattle.characters.proofs.Bits.{or_zero}
use Rattle.characters.proofs.Chars.{all_append}
use Rattle.characters.proofs.Walk.{next}
use Rattle.json_lists.specs.Grammar.{is_raw}
use Rattle.json_lists.specs.Written.{hex_digit_of, escaped}
use Rattle.json_write_text.specs.InnerPutting.{Puts}
use Rattle.json_write_text.proofs.Putting.{laid_more}

-- ---- hexadecimal digits

pub digit_low : (n : ℕ) → n < 10 → 0x30 + n ≡ hex_digit_of n
unfolding hex_digit_of
digit_low n h = rw (lt-ltb n 10 h)

pub digit_high : (n : ℕ) → 10 ≤ n → 0x57 + n ≡ hex_digit_of n
unfolding hex_digit_of
digit_high n h = rw (le-ltb n 10 h)

-- ---- one byte

module _ (b : ℕ) where
  pub backslash_mark : b ≡ 0x22 → true ≡ (eqb b 0x22 || eqb b 0x5C)
  backslash_mark h = rw (eq-eqb b 0x22 h)

  pub backslash_other : (b ≡ 0x22 → ⊥) → eqb b 0x5C ≡ (eqb b 0x22 || eqb b 0x5C)
  backslash_other h = rw (ne_eqb b 0x22 h)

  code_is : b < 0x20 → escaped b ≡ 0x5C ∷ 0x75 ∷ 0x30 ∷ 0x30 ∷ hex_digit_of (b / 16) ∷ hex_digit_of (b % 16) ∷ []
  unfolding escaped
  code_is h = rw (ne_eqb b 0x22 (λ e. omega arith), ne_eqb b 0x5C (λ e. omega arith), lt-ltb b 0x20 h)

  module _ (t : Bool) (p : t ≡ (eqb b 0x22 || eqb b 0x5C)) where
    mark_is : t ≡ true → escaped b ≡ 0x5C ∷ b ∷ []
    unfolding escaped
    mark_is e = rw (sym p ∙ e)

    self_is : 0x20 ≤ b → t ≡ false → escaped b ≡ b ∷ []
    unfolding escaped
    self_is h e = rw (sym p ∙ e, le-ltb b 0x20 h)

  module _ (o : List ℕ) (at : ℕ) where
    pub code_room : b < 0x20 → at + length (escaped b) ≤ length o → at + 6 ≤ length o
    code_room h r = omega (arith, ap length (code_is h))

    -- `\u00` and the two digits
    pub code_puts : (x y : ℕ) → b < 0x20 → x ≡ hex_digit_of (b / 16) → y ≡ hex_digit_of (b % 16)
        → Puts at (escaped b) o (at + 6) (set (set (set (set (set (set o at 0x5C) (at + 1) 0x75) (at + 2) 0x30) (at + 3) 0x30) (at + 4) x) (at + 5) y)
    code_puts x y h p q =
        let e : 0x5C ∷ 0x75 ∷ 0x30 ∷ 0x30 ∷ x ∷ y ∷ [] ≡ escaped b = (λ i. 0x5C ∷ 0x75 ∷ 0x30 ∷ 0x30 ∷ p i ∷ q i ∷ []) ∙ sym (code_is h) in
        let c = laid_more at 2 _ o (laid_more at 1 _ o (put_in o at 0x5C) refl 0x75) refl 0x30 in
        let d = laid_more at 5 _ o (laid_more at 4 _ o (laid_more at 3 _ o c refl 0x30) refl x) refl y in
        record { ends = ap (λ l. at + length l) e; wrote = d ∙ ap (λ l. over at l o) e }

    module _ (t : Bool) (p : t ≡ (eqb b 0x22 || eqb b 0x5C)) where
      pub mark_room : t ≡ true → at + length (escaped b) ≤ length o → at + 2 ≤ length o
      mark_room e r = omega (arith, ap length (mark_is t p e))

      pub mark_puts : t ≡ true → Puts at (escaped b) o (at + 2) (set (set o at 0x5C) (at + 1) b)
      mark_puts e =
          let f = sym (mark_is t p e) in
          record { ends = ap (λ l. at + length l) f; wrote = laid_more at 1 _ o (put_in o at 0x5C) refl b ∙ ap (λ l. over at l o) f }

      pub self_room : 0x20 ≤ b → t ≡ false → at + length (escaped b) ≤ length o → at + 1 ≤ length o
      self_room h e r = omega (arith, ap length (self_is t p h e))

      pub self_puts : 0x20 ≤ b → t ≡ false → Puts at (escaped b) o (at + 1) (set o at b)
      self_puts h e =
          let f = sym (self_is t p h e) in
          record { ends = ap (λ l. at + length l) f; wrote = put_in o at b ∙ ap (λ l. over at l o) f }

-- ---- eight bytes

pub eight_laid : (at : ℕ) (s : List ℕ) (from : ℕ) (o o₁ : List ℕ) → from + 8 ≤ length s → at + 8 ≤ length o
    → o₁ ≡ take at o ++ take 8 (drop from s) ++ drop (at + 8) o → o₁ ≡ over at (take 8 (drop from s)) o
eight_laid at s from o o₁ h r p =
    let xs = take 8 (drop from s) in
    let n : length xs ≡ 8 = length-take-le 8 (drop from s) (simp length-drop (omega arith)) in
    p ∙ ap (λ k. take at o ++ xs ++ drop (at + k) o) (sym n) ∙ sym (over_at at xs o (omega arith))

-- ---- bytes that stand for themselves

module _ (b x y z : ℕ) (p : x ≡ from_bool (ltb b 0x20)) (q : y ≡ from_bool (eqb b 0x22)) (r : z ≡ from_bool (eqb b 0x5C)) where
  pub special_none : eqb (x + y + z) 0 ≡ is_raw b
  unfolding is_raw
  special_none = rw (p, q, r) (go (eqb b 0x22) (eqb b 0x5C) (ltb b 0x20))
    where
      go : (e f g : Bool) → eqb (from_bool g + from_bool e + from_bool f) 0 ≡ (not e && (not f && not g))
      go true true true = refl
      go true true false = refl
      go true false true = refl
      go true false false = refl
      go false true true = refl
      go false true false = refl
      go false false true = refl
      go false false false = refl

-- x is 0 exactly where all of the bytes do
record Raws (x : ℕ) (bs : List ℕ) : Type 0 where
  pub is : eqb x 0 ≡ all_of is_raw bs

module _ (t : List ℕ) where
  raw_one : (at : ℕ) {x : ℕ} → at < length t → eqb x 0 ≡ is_raw (get_or t at 0) → Raws x (take 1 (drop at t))
  raw_one at h p = record { is = p ∙ sym (and-true (is_raw (get_or t at 0))) ∙ ap (λ l. all_of is_raw (take 1 l)) (sym (next t at h)) }

  -- two parts next to each other
  raw_join : (at n m j : ℕ) {x y : ℕ} → j ≡ at + n → Raws x (take n (drop at t)) → Raws y (take m (drop j t)) → Raws (bit_or x y) (take (n + m) (drop at t))
  raw_join at n m j {x} {y} e p q =
      record {
        is =
            or_zero x y
            ∙ ap₂ ◌&&◌ p.is (q.is ∙ ap (λ i. all_of is_raw (take m (drop i t))) e ∙ ap (λ l. all_of is_raw (take m l)) (sym (drop-drop n at t)))
            ∙ sym (all_append is_raw (take n (drop at t)) (take m (drop n (drop at t))))
            ∙ ap (all_of is_raw) (sym (take-add n m (drop at t)));
      }

  raw_two : (at j x y : ℕ) → j ≡ at + 1 → at + 2 ≤ length t → eqb x 0 ≡ is_raw (get_or t at 0) → eqb y 0 ≡ is_raw (get_or t j 0) → Raws (bit_or x y) (take 2 (drop at t))
  raw_two at j x y e h p q = raw_join at 1 1 j e (raw_one at {x = x} (omega arith) p) (raw_one j {x = y} (omega arith) q)

  pub raws_eight : (at a b c d e f g h : ℕ) → at + 8 ≤ length t
      → eqb a 0 ≡ is_raw (get_or t at 0) → eqb b 0 ≡ is_raw (get_or t (at + 1) 0) → eqb c 0 ≡ is_raw (get_or t (at + 2) 0) → eqb d 0 ≡ is_raw (get_or t (at + 3) 0)
      → eqb e 0 ≡ is_raw (get_or t (at + 4) 0) → eqb f 0 ≡ is_raw (get_or t (at + 5) 0) → eqb g 0 ≡ is_raw (get_or t (at + 6) 0) → eqb h 0 ≡ is_raw (get_or t (at + 7) 0)
      → eqb (bit_or (bit_or (bit_or a b) (bit_or c d)) (bit_or (bit_or e f) (bit_or g h))) 0 ≡ all_of is_raw (take 8 (drop at t))
  raws_eight at a b c d e f g h l pa pb pc pd pe pf pg ph =
      (raw_join at 4 4 (at + 4) refl
      (raw_join at 2 2 (at + 2) refl (raw_two at (at + 1) a b refl (omega arith) pa pb) (raw_two (at + 2) (at + 3) c d (omega arith) (omega arith) pc pd))
      (raw_join (at + 4) 2 2 (at + 6) (omega arith) (raw_two (at + 4) (at + 5) e f (omega arith) (omega arith) pe pf) (raw_two (at + 6) (at + 7) g h (omega arith) (omega arith) pg ph))
      ).is
