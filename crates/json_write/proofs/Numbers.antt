-- A number that is written digit by digit, the last one first.
use Rattle.std.specs.Prelude.{◌≡◌, ℕ, zero, suc, ◌+◌, ◌-◌, ◌/◌, ◌%◌, ◌<◌, ◌≤◌, Bool, true, false, cond, ltb, List, [], ◌∷◌, ◌++◌, length, set}
use native.Mathlib.Omega.{arith}
use mathlib.Core.Path.{refl, sym, ap, ◌∙◌}
use lib.ListN.{length-append, length-set}
use borrow.Author.Tests.{ltb-true}
use Rattle.buffers.specs.InnerOver.{over}
use Rattle.buffers.proofs.Over.{over_nil, over_join, over_swap, put_in}
use Rattle.json_lists.specs.Written.{decimal_in, decimal}
use Rattle.json_write_text.specs.InnerPutting.{Puts}

-- the last k digits of n
unfoldable pub last_digits : ℕ → ℕ → List ℕ
last_digits zero n = []
last_digits (suc k) n = last_digits k (n / 10) ++ ((0x30 + n % 10) ∷ [])

length_last : (k n : ℕ) → length (last_digits k n) ≡ k
unfolding last_digits
length_last zero n = refl
length_last (suc k) n = omega (arith, length-append (last_digits k (n / 10)) ((0x30 + n % 10) ∷ []), length_last k (n / 10))

all_digits : (f n : ℕ) → decimal_in f n ≡ last_digits (length (decimal_in f n)) n
unfolding decimal_in last_digits
all_digits zero n = refl
all_digits (suc f) n = go (ltb n 10) refl (all_digits f (n / 10))
  where
    more : List ℕ
    more = decimal_in f (n / 10)

    go : (t : Bool) → ltb n 10 ≡ t → more ≡ last_digits (length more) (n / 10)
        → cond t ((0x30 + n) ∷ []) (more ++ ((0x30 + n % 10) ∷ [])) ≡ last_digits (length (cond t ((0x30 + n) ∷ []) (more ++ ((0x30 + n % 10) ∷ [])))) n
    go true e ih = let z : 0x30 + n ≡ 0x30 + n % 10 = omega (arith, ltb-true n 10 e) in ap (λ d. d ∷ []) z
    go false e ih =
        let z : length (more ++ ((0x30 + n % 10) ∷ [])) ≡ suc (length more) = omega (arith, length-append more ((0x30 + n % 10) ∷ [])) in
        ap (λ l. l ++ ((0x30 + n % 10) ∷ [])) ih ∙ ap (λ k. last_digits k n) (sym z)

-- ---- the digits before `i` are still to be written

pub record Digits (o : List ℕ) (at n : ℕ) (o₁ : List ℕ) (i rest : ℕ) : Type 0 where
  pub above : at ≤ i
  pub below : i ≤ at + length (decimal n)
  pub same : over at (last_digits (i - at) rest) o₁ ≡ over at (decimal n) o
  pub long : length o₁ ≡ length o

module _ (o : List ℕ) (at n d : ℕ) (e : d ≡ length (decimal n)) where
  pub digits_start : Digits o at n o (at + d) n
  unfolding decimal
  digits_start =
      let z : at + d - at ≡ length (decimal n) = omega arith in
      record {
        above = omega arith;
        below = omega arith;
        same = ap (λ l. over at l o) (ap (λ k. last_digits k n) z ∙ sym (all_digits (suc n) n));
        long = refl;
      }

  pub digits_end : (o₁ : List ℕ) (i rest : ℕ) → Digits o at n o₁ i rest → i ≤ at → Puts at (decimal n) o (at + d) o₁
  unfolding last_digits
  digits_end o₁ i rest g h =
      let z : i - at ≡ 0 = omega arith in
      record {
        ends = ap (λ k. at + k) e;
        wrote = sym (over_nil at o₁) ∙ ap (λ k. over at (last_digits k rest) o₁) (sym z) ∙ g.same;
      }

pub digits_more : (o : List ℕ) (at n : ℕ) (o₁ : List ℕ) (i rest : ℕ) → Digits o at n o₁ i rest → at < i → Digits o at n (set o₁ (i - 1) (0x30 + rest % 10)) (i - 1) (rest / 10)
unfolding last_digits
digits_more o at n o₁ i rest g h =
    let k = i - 1 - at in
    let xs = last_digits k (rest / 10) in
    let d = 0x30 + rest % 10 in
    let l : at + length xs ≡ i - 1 = omega (arith, length_last k (rest / 10)) in
    let z : suc k ≡ i - at = omega arith in
    record {
      above = omega arith;
      below = omega (arith, g.below);
      same =
          ap (over at xs) (put_in o₁ (i - 1) d)
          ∙ sym (over_swap at (i - 1) xs (d ∷ []) o₁ (omega arith))
          ∙ ap (λ j. over j (d ∷ []) (over at xs o₁)) (sym l)
          ∙ over_join at xs (d ∷ []) o₁
          ∙ ap (λ j. over at (last_digits j rest) o₁) z
          ∙ g.same;
      long = length-set o₁ (i - 1) d ∙ g.long;
    }
