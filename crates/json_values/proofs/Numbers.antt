-- White space and digits, passed one by one.
use Rattle.std.specs.Prelude.{◌≡◌, ℕ, ◌+◌, ◌-◌, ◌*◌, ◌<◌, ◌≤◌, min, Bool, true, false, not, ◌||◌, T, eqb, List, length, get_or, take, drop}
use native.Mathlib.Omega.{arith}
use mathlib.Core.Path.{refl, sym, ap, ◌∙◌}
use borrow.Author.Tests.{ne_eqb, not-true, not-false}
use Rattle.buffers.specs.Lists.{all_of}
use Rattle.characters.proofs.Leads.{inside, under, over}
use Rattle.json_lists.specs.Form.{Sign, is_white_space, is_digit, value_of_digit, in_number}
use Rattle.json_lists.specs.InnerRuns.{Run, over_limit, Onward}
use Rattle.json_lists.proofs.Ascii.{low_digit}
use Rattle.json_lists.proofs.Limits.{capped_digit}
use Rattle.json_lists.proofs.Steps.{onward_none, onward_then, at_byte, byte, next_digit}
use Rattle.json_strings.proofs.Spans.{joined, empty, one, all_join}
use Rattle.json_values.specs.declared.inner.Digits.{Digits}
use Rattle.json_values.specs.InnerValues.{DigitsAt}

-- ---- white space

module _ (b : ℕ) where
  pub space_over : 0x20 < b → false ≡ is_white_space b
  unfolding is_white_space
  space_over h = rw (ne_eqb b 0x20 (λ e. omega arith), ne_eqb b 0x09 (λ e. omega arith), ne_eqb b 0x0A (λ e. omega arith), ne_eqb b 0x0D (λ e. omega arith))

  pub space_20 : b ≡ 0x20 → true ≡ is_white_space b
  unfolding is_white_space
  space_20 e = rw e

  pub space_0_a : b ≡ 0x0A → true ≡ is_white_space b
  unfolding is_white_space
  space_0_a e = rw e

  pub space_0_d : b ≡ 0x0D → true ≡ is_white_space b
  unfolding is_white_space
  space_0_d e = rw e

  pub space_09 : (b ≡ 0x20 → ⊥) → (b ≡ 0x0A → ⊥) → (b ≡ 0x0D → ⊥) → eqb b 0x09 ≡ is_white_space b
  unfolding is_white_space
  space_09 x y z = rw (ne_eqb b 0x20 x, ne_eqb b 0x0A y, ne_eqb b 0x0D z) (last (eqb b 0x09))
    where
      last : (t : Bool) → t ≡ (t || false || false)
      last true = refl
      last false = refl

-- the bytes from `at` to i are white space
pub record Spaces (t : List ℕ) (at i : ℕ) : Type 0 where
  pub above : at ≤ i
  pub below : i ≤ length t
  pub all : T (all_of is_white_space (take (i - at) (drop at t)))

module _ (t : List ℕ) (at : ℕ) where
  pub spaces_none : at ≤ length t → Spaces t at at
  spaces_none h = record { above = omega arith; below = h; all = rw (empty t at) tt }

  module _ (i : ℕ) (s : Spaces t at i) where
    pub spaces_whole : length t ≤ i → Run is_white_space t at i
    spaces_whole h = record { above = s.above; below = s.below; all = s.all; stops = λ l. absurd (omega arith) }

    module _ (h : i < length t) {b : Bool} (e : b ≡ is_white_space (get_or t i 0)) where
      pub spaces_stop : not b ≡ true → Run is_white_space t at i
      spaces_stop n = record { above = s.above; below = s.below; all = s.all; stops = λ _. sym e ∙ not-true b n }

      pub spaces_more : not b ≡ false → Spaces t at (i + 1)
      spaces_more n = record {
        above = omega (arith, s.above);
        below = omega arith;
        all = rw (joined t at i (i + 1) s.above (omega arith)) (all_join is_white_space (take (i - at) (drop at t)) (take (i + 1 - i) (drop i t)) s.all (rw (one t i h, ← e, not-false b n) tt));
      }

-- ---- digits

module _ (b : ℕ) where
  digit_is : 0x30 ≤ b → b ≤ 0x39 → is_digit b ≡ true
  unfolding is_digit
  digit_is l h = inside 0x30 0x39 b l h

  digit_under : b < 0x30 → is_digit b ≡ false
  unfolding is_digit
  digit_under h = under 0x30 0x39 b h

  digit_over : 0x39 < b → is_digit b ≡ false
  unfolding is_digit
  digit_over h = over 0x30 0x39 b h

  digit_value : value_of_digit b ≡ b - 0x30
  unfolding value_of_digit
  digit_value = refl

-- the digits from `at` to i make a number that is held as v
pub record Counted (t : List ℕ) (at i v : ℕ) : Type 0 where
  pub value : ℕ
  pub capped : v ≡ min value over_limit
  pub above : at < i
  pub below : i ≤ length t
  pub onward : (s : Sign) → Onward (in_number s (value_of_digit (get_or t at 0))) (drop (at + 1) t) (in_number s value) (drop i t)

module _ (t : List ℕ) (at : ℕ) where
  pub counted_first : at < length t → get_or t at 0 ≤ 0x39 → Counted t at (at + 1) (get_or t at 0 - 0x30)
  unfolding value_of_digit
  counted_first h k = record {
    value = get_or t at 0 - 0x30;
    capped = omega arith;
    above = omega arith;
    below = omega arith;
    onward = λ s. onward_none (in_number s (get_or t at 0 - 0x30)) (drop (at + 1) t);
  }

  module _ (i v : ℕ) (c : Counted t at i v) where
    ended : (i < length t → is_digit (get_or t i 0) ≡ false) → (r : Digits) → r.value ≡ v → r.to ≡ i → DigitsAt t at r
    ended f r p q = record {
      value = c.value;
      capped = p ∙ c.capped;
      above = omega (arith, c.above);
      below = omega (arith, c.below);
      onward = λ s. rw q (c.onward s);
      stops = λ l. rw q (f (omega arith));
    }

    pub counted_whole : length t ≤ i → (r : Digits) → r.value ≡ v → r.to ≡ i → DigitsAt t at r
    counted_whole h = ended (λ l. absurd (omega arith))

    pub counted_under : get_or t i 0 < 0x30 → (r : Digits) → r.value ≡ v → r.to ≡ i → DigitsAt t at r
    counted_under h = ended (λ l. digit_under (get_or t i 0) h)

    pub counted_over : 0x39 < get_or t i 0 → (r : Digits) → r.value ≡ v → r.to ≡ i → DigitsAt t at r
    counted_over h = ended (λ l. digit_over (get_or t i 0) h)

    pub counted_more : i < length t → 0x30 ≤ get_or t i 0 → get_or t i 0 ≤ 0x39 → (w : ℕ) → w ≡ min (v * 10 + (get_or t i 0 - 0x30)) over_limit → Counted t at (i + 1) w
    unfolding value_of_digit
    counted_more h l k w e =
        let b = get_or t i 0 in
        let d = digit_is b l k in
        record {
          value = c.value * 10 + (b - 0x30);
          capped = e ∙ ap (λ n. min (n * 10 + (b - 0x30)) over_limit) c.capped ∙ sym (capped_digit c.value (b - 0x30));
          above = omega (arith, c.above);
          below = omega arith;
          onward = λ s.
              let (n, m) = next_digit s c.value b d in
              onward_then (c.onward s) (rw (at_byte t i h) (byte {b = b} (drop (i + 1) t) (low_digit b d) n m));
        }
