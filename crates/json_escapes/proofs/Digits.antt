-- Hexadecimal digits, and four of them.
use Rattle.std.specs.Prelude.{◌≡◌, ℕ, zero, suc, ◌+◌, ◌-◌, ◌*◌, ◌<◌, ◌≤◌, Bool, true, false, cond, List, ◌∷◌, length, get_or, drop, Some, None}
use Rattle.std.proofs.lemmas.Option.{none-some, same_Some}
use native.Mathlib.Numerals.{add-one}
use native.Mathlib.Omega.{arith}
use mathlib.Core.Path.{refl, sym, ap, ◌∙◌}
use mathlib.Core.Option.{Option as Maybe}
use lib.ListN.{drop_of_length-le}
use borrow.Author.Tests.{lt-ltb, le-ltb}
use Rattle.buffers.proofs.Tests.{known}
use Rattle.characters.specs.Form.{within, is_well_formed}
use Rattle.characters.proofs.Leads.{inside, under, over}
use Rattle.json_lists.specs.Form.{is_hex, value_of_hex, in_unicode, outside, counted, next, reached, items}
use Rattle.json_lists.specs.InnerRuns.{Onward, Fails}
use Rattle.json_lists.proofs.Strings.{hex_value}
use Rattle.json_lists.proofs.Steps.{onward_none, onward_then, fails_then, ended_fails, next_outside_fails, at_byte, hex_step}
use Rattle.json_escapes.specs.InnerEscapes.{hex_or_none, Hex4, Hex4At}

-- ---- one digit

module _ (b : ℕ) where
  pub hex_digit : 0x30 ≤ b → b ≤ 0x39 → Some (b - 0x30) ≡ hex_or_none b
  unfolding is_hex value_of_hex
  hex_digit l h = rw (inside 0x30 0x39 b l h, lt-ltb b 0x3A (omega arith))

  pub hex_upper : 0x41 ≤ b → b ≤ 0x46 → Some (b - 0x41 + 10) ≡ hex_or_none b
  unfolding is_hex value_of_hex
  hex_upper l h =
      let e : b - 0x41 + 10 ≡ b - 0x37 = omega arith in
      rw (over 0x30 0x39 b (omega arith), inside 0x41 0x46 b l h, le-ltb b 0x3A (omega arith), lt-ltb b 0x47 (omega arith)) (ap Some e)

  pub hex_lower : 0x61 ≤ b → b ≤ 0x66 → Some (b - 0x61 + 10) ≡ hex_or_none b
  unfolding is_hex value_of_hex
  hex_lower l h =
      let e : b - 0x61 + 10 ≡ b - 0x57 = omega arith in
      rw (over 0x30 0x39 b (omega arith), over 0x41 0x46 b (omega arith), inside 0x61 0x66 b l h, le-ltb b 0x3A (omega arith), le-ltb b 0x47 (omega arith)) (ap Some e)

  none : within 0x30 0x39 b ≡ false → within 0x41 0x46 b ≡ false → within 0x61 0x66 b ≡ false → None ≡ hex_or_none b
  unfolding is_hex
  none x y z = rw (x, y, z)

  pub hex_under : b < 0x30 → None ≡ hex_or_none b
  hex_under h = none (under 0x30 0x39 b h) (under 0x41 0x46 b (omega arith)) (under 0x61 0x66 b (omega arith))

  pub hex_between : 0x39 < b → b < 0x41 → None ≡ hex_or_none b
  hex_between l h = none (over 0x30 0x39 b l) (under 0x41 0x46 b h) (under 0x61 0x66 b (omega arith))

  pub hex_behind : 0x46 < b → b < 0x61 → None ≡ hex_or_none b
  hex_behind l h = none (over 0x30 0x39 b (omega arith)) (over 0x41 0x46 b l) (under 0x61 0x66 b h)

  pub hex_over : 0x66 < b → None ≡ hex_or_none b
  hex_over h = none (over 0x30 0x39 b (omega arith)) (over 0x41 0x46 b (omega arith)) (over 0x61 0x66 b h)

  no_digit : None ≡ hex_or_none b → is_hex b ≡ false
  no_digit e = go (is_hex b) e
    where
      go : (x : Bool) → None ≡ cond x (Some (value_of_hex b)) None → x ≡ false
      go true q = absurd (none-some (value_of_hex b) q)
      go false q = refl

  a_digit : {d : ℕ} → Some d ≡ hex_or_none b → (is_hex b ≡ true) × (d ≡ value_of_hex b)
  a_digit {d} e = go (is_hex b) e
    where
      go : (x : Bool) → Some d ≡ cond x (Some (value_of_hex b)) None → (x ≡ true) × (d ≡ value_of_hex b)
      go true q = (refl, same_Some d (value_of_hex b) q)
      go false q = absurd (none-some d (sym q))

-- ---- four digits

-- the values of k digits
abbrev below : ℕ → ℕ
below zero = 1
below (suc k) = 16 * below k

few_below : (k : ℕ) → k ≤ 4 → below k ≤ 0x10000
few_below zero h = omega arith
few_below (suc zero) h = omega arith
few_below (suc (suc zero)) h = omega arith
few_below (suc (suc (suc zero))) h = omega arith
few_below (suc (suc (suc (suc zero)))) h = omega arith
few_below (suc (suc (suc (suc (suc k))))) h = absurd (omega arith)

-- k digits stand at `at`, and their number is v
pub record SomeDigits (t : List ℕ) (at k v : ℕ) : Type 0 where
  pub few : k ≤ 4
  pub small : v < below k
  pub fits : v < 0x10000
  pub there : at + k ≤ length t
  pub onward : (high : Maybe ℕ) (s : List ℕ) → Onward (in_unicode high 3 0 s) (drop at t) (counted high (4 - k) v s) (drop (at + k) t)

next_bad : (high : Maybe ℕ) (due v : ℕ) (s : List ℕ) (b : ℕ) → is_hex b ≡ false → next (in_unicode high due v s) b ≡ outside
unfolding next
next_bad high due v s b e = rw e

module _ (t : List ℕ) (at : ℕ) where
  pub no_digits : at ≤ length t → SomeDigits t at 0 0
  no_digits h =
      let z : at + 0 ≡ at = omega arith in
      record { few = omega arith; small = omega arith; fits = omega arith; there = omega arith; onward = λ high s. rw z (onward_none (in_unicode high 3 0 s) (drop at t)) }

  pub all_digits : (v : ℕ) {k : ℕ} → SomeDigits t at k v → 4 ≤ k → Hex4 t at v
  all_digits v {k} d h =
      let l = d.few in
      let z : k ≡ 4 = omega arith in
      record { few = d.fits; there = omega (arith, d.there); onward = λ high s. rw z at (d.onward high s) }

  module _ (k v : ℕ) (d : SomeDigits t at k v) (h : k < 4) where
    -- the place behind them
    due : (high : Maybe ℕ) (s : List ℕ) → counted high (4 - k) v s ≡ in_unicode high (3 - k) v s
    due high s = let z : 4 - k ≡ suc (3 - k) = omega arith in ap (λ n. counted high n v s) z

    no_number : ((high : Maybe ℕ) (s : List ℕ) → Fails (in_unicode high (3 - k) v s) (drop (at + k) t)) → Hex4At t at None
    no_number f = λ high s. fails_then (rw (due high s) at (d.onward high s)) (f high s)

    pub digits_end : length t ≤ at + k → Hex4At t at None
    digits_end l = no_number (λ high s. rw (drop_of_length-le t l) (ended_fails (in_unicode high (3 - k) v s) refl))

    module _ (l : at + k < length t) where
      pub digits_bad : None ≡ hex_or_none (get_or t (at + k) 0) → Hex4At t at None
      digits_bad e =
          let b = get_or t (at + k) 0 in
          no_number (λ high s. rw (at_byte t (at + k) l) (next_outside_fails (in_unicode high (3 - k) v s) b (drop (at + k + 1) t) (next_bad high (3 - k) v s b (no_digit b e))))

      pub digits_more : {x : ℕ} → Some x ≡ hex_or_none (get_or t (at + k) 0) → SomeDigits t at (k + 1) (v * 16 + x)
      digits_more {x} e =
          let b = get_or t (at + k) 0 in
          let (p, q) = a_digit b e in
          let u = hex_value b p in
          let w₁ : value_of_hex b ≡ x = sym q in
          let step : (high : Maybe ℕ) (s : List ℕ) → Onward (in_unicode high (3 - k) v s) (b ∷ drop (at + k + 1) t) (counted high (3 - k) (v * 16 + value_of_hex b) s) (drop (at + k + 1) t) =
          λ high s. hex_step high (3 - k) v s b (drop (at + k + 1) t) (known p) in
          let z : at + k + 1 ≡ at + (k + 1) = omega arith in
          let y : 3 - k ≡ 4 - (k + 1) = omega arith in
          record {
            few = omega arith;
            small = rw (add-one k) (omega (arith, d.small));
            fits = let f = few_below (suc k) (omega arith) in omega (arith, d.small);
            there = omega arith;
            onward = λ high s.
                onward_then (rw (due high s, at_byte t (at + k) l) at (d.onward high s))
                (record {
                  to = (step high s).to ∙ λ i. reached (counted high (y i) (v * 16 + w₁ i) s) (drop (z i) t);
                  has = (step high s).has ∙ λ i. items (counted high (y i) (v * 16 + w₁ i) s) (drop (z i) t);
                  well = (step high s).well ∙ λ i. is_well_formed (drop (z i) t);
                });
          }
