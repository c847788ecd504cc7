-- Characters counted from the front.
use Prim.Native.Nat.{ℕ, ◌+◌, ◌-◌, ◌*◌, ◌/◌, ◌≤◌, ◌<◌, zero-le}
use mathlib.Core.Path.{◌≡◌, sym, ap, ◌∙◌}
use mathlib.Core.List.{List}
use lib.ListN.{length, drop, get_or, take, length-take, drop_of_length-le, take-append-drop}
use native.Mathlib.Nat.{zero-add}
use native.Mathlib.Omega.{arith}
use mathlib.Core.Bool.{Bool, true, false, not}
use lib.Seq.{drop-drop}
use borrow.Author.Tests.{not-true, not-false}
use Rattle.characters.specs.Chars.{number_of_chars, is_continuation}
use Rattle.characters.proofs.Walk.{num_cont, num_start}
use Rattle.characters.proofs.Chars.{num_append, num_le}

-- n characters begin before i
pub record Counted (s : List ℕ) (i n : ℕ) : Type 0 where
  pub below : i ≤ length s
  pub few : n ≤ i
  pub num : n + number_of_chars (drop i s) ≡ number_of_chars s

pub counted_none : (s : List ℕ) → Counted s 0 0
counted_none s = record { below = zero-le; few = zero-le; num = zero-add (number_of_chars s) }

module _ (s : List ℕ) (i n : ℕ) (c : Counted s i n) where
  pub counted_all : length s ≤ i → n ≡ number_of_chars s
  counted_all h = omega (arith, c.num, ap number_of_chars (drop_of_length-le s h))

  -- one byte more
  module _ (a : Bool) (h : i < length s) (e : a ≡ is_continuation (get_or s i 0)) where
    pub counted_start : not a ≡ true → Counted s (i + 1) (n + 1)
    counted_start x =
        record { below = omega arith; few = omega (arith, c.few); num = omega (arith, c.num, num_start s i h (sym e ∙ not-true a x)) }

    pub counted_cont : not a ≡ false → Counted s (i + 1) n
    counted_cont x =
        record { below = omega arith; few = omega (arith, c.few); num = omega (arith, c.num, num_cont s i h (sym e ∙ not-false a x)) }

  -- k bytes more, r of them no continuations
  pub counted_part : (k r : ℕ) → k ≤ length s - i → r ≡ number_of_chars (take (i + k - i) (drop i s)) → Counted s (i + k) (n + r)
  counted_part k r h e =
      let b = c.below in
      let l = drop i s in
      let z : i + k - i ≡ k = omega arith in
      record {
        below = omega arith;
        few = omega (arith, c.few, ap (λ j. number_of_chars (take j l)) z, num_le (take k l), length-take k l);
        num = omega (arith, c.num, ap (λ j. number_of_chars (take j l)) z, ap number_of_chars (take-append-drop k l), num_append (take k l) (drop k l), ap number_of_chars (drop-drop k i s));
      }

  pub counted_rest : (r : ℕ) → r ≡ number_of_chars (drop i s) → n + r ≡ number_of_chars s
  counted_rest r e = omega (arith, c.num)

-- eight bytes more, r of them no continuations
pub counted_eight : (s : List ℕ) (k n r : ℕ) → Counted s (8 * k) n → k < length s / 8 → r ≡ number_of_chars (take 8 (drop (8 * k) s)) → Counted s (8 * (k + 1)) (n + r)
counted_eight s k n r c h e =
    let l = drop (8 * k) s in
    let z : 8 * k + 8 ≡ 8 * (k + 1) = omega arith in
    record {
      below = omega arith;
      few = omega (arith, c.few, num_le (take 8 l), length-take 8 l);
      num = omega (arith, c.num, ap number_of_chars (take-append-drop 8 l), num_append (take 8 l) (drop 8 l), ap number_of_chars (drop-drop 8 (8 * k) s), ap (λ j. number_of_chars (drop j s)) z);
    }

-- all words, and the bytes left over
pub counted_words : (s : List ℕ) (k n r : ℕ) → Counted s (8 * k) n → length s / 8 ≤ k → r ≡ number_of_chars (drop (8 * (length s / 8)) s) → n + r ≡ number_of_chars s
counted_words s k n r c h e =
    let l = c.below in
    let z : 8 * (length s / 8) ≡ 8 * k = omega arith in
    omega (arith, c.num, ap (λ j. number_of_chars (drop j s)) z)

-- no bytes are left
pub none_left : (s : List ℕ) (i : ℕ) → length s ≤ i → 0 ≡ number_of_chars (drop i s)
none_left s i h = sym (ap number_of_chars (drop_of_length-le s h))

-- the last n bytes are those from i on
pub last_from : (s : List ℕ) (i n r : ℕ) → i + n ≡ length s → r ≡ number_of_chars (drop (length s - n) s) → r ≡ number_of_chars (drop i s)
last_from s i n r h e = let f : length s - n ≡ i = omega arith in e ∙ ap (λ j. number_of_chars (drop j s)) f

-- eight bytes, and the last n behind them
pub eight_and_last : (s : List ℕ) (i n r u : ℕ) → i + 8 + n ≡ length s → r ≡ number_of_chars (take 8 (drop i s)) → u ≡ number_of_chars (drop (length s - n) s)
    → r + u ≡ number_of_chars (drop i s)
eight_and_last s i n r u h e f =
    omega (arith, last_from s (i + 8) n u h f, ap number_of_chars (take-append-drop 8 (drop i s)), num_append (take 8 (drop i s)) (drop 8 (drop i s)), ap number_of_chars (drop-drop 8 i s))
