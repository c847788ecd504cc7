-- A text's characters, and the bytes that it takes in strings.
use Rattle.std.specs.Prelude.{◌≡◌, ℕ, ◌+◌, ◌-◌, ◌*◌, ◌/◌, ◌%◌, ◌<◌, ◌≤◌, Bool, true, false, cond, not, ◌&&◌, ◌||◌, eqb, ltb, List, [], ◌∷◌, ◌++◌, length, get_or, take, drop, Some, None}
use native.Mathlib.Nat.{zero-add}
use native.Mathlib.Omega.{arith}
use mathlib.Core.Path.{refl, sym, ap, ◌∙◌}
use mathlib.Core.Logic.{⊎_elim}
use mathlib.Core.List.{append-nil}
use lib.ListN.{length-take, take-append-drop, drop_of_length-le}
use lib.Seq.{drop-drop}
use borrow.Author.Tests.{lt-ltb, le-ltb, ne_eqb}
use Rattle.buffers.proofs.Tests.{holds}
use Rattle.characters.specs.Form.{is_well_formed}
use Rattle.characters.specs.Chars.{is_continuation, number_of_chars}
use Rattle.characters.proofs.Chars.{num_append, num_le, well_append}
use Rattle.characters.proofs.Leads.{le_or_lt, under}
use Rattle.characters.proofs.Walk.{next, num_start}
use Rattle.json_lists.specs.Grammar.{is_raw}
use Rattle.json_lists.specs.InnerRuns.{Plain, extra_bytes}
use Rattle.json_lists.specs.Written.{hex_digit_of, escaped, escaped_all}
use Rattle.json_lists.proofs.Ascii.{ascii_on}
use Rattle.json_lists.proofs.Lengths.{escaped_all_length, extra_bytes_append, extra_bytes_most, plain_none}
use Rattle.json_measure.specs.declared.inner.Texts.{Texts}
use Rattle.json_measure.specs.InnerSizes.{sizes_of}

-- ---- one byte

module _ (b : ℕ) where
  pub extra_code : b < 0x20 → 6 ≡ length (escaped b)
  unfolding escaped
  extra_code h = rw (ne_eqb b 0x22 (λ e. omega arith), ne_eqb b 0x5C (λ e. omega arith), lt-ltb b 0x20 h)

  pub extra_mark : b ≡ 0x22 → 2 ≡ length (escaped b)
  unfolding escaped
  extra_mark e = rw e

  pub extra_backslash : b ≡ 0x5C → 2 ≡ length (escaped b)
  unfolding escaped
  extra_backslash e = rw e

  pub extra_none : 0x20 ≤ b → (b ≡ 0x22 → ⊥) → (b ≡ 0x5C → ⊥) → 1 ≡ length (escaped b)
  unfolding escaped
  extra_none h e f = rw (ne_eqb b 0x22 e, ne_eqb b 0x5C f, le-ltb b 0x20 h)

  -- a byte that takes one stands for itself
  raw_one : 1 ≡ length (escaped b) → is_raw b ≡ true
  unfolding escaped is_raw
  raw_one = go (eqb b 0x22) (eqb b 0x5C) (ltb b 0x20)
    where
      go : (x y z : Bool) → 1 ≡ length (cond (x || y) (0x5C ∷ b ∷ []) (cond z (0x5C ∷ 0x75 ∷ 0x30 ∷ 0x30 ∷ hex_digit_of (b / 16) ∷ hex_digit_of (b % 16) ∷ []) (b ∷ []))) → (not x && (not y && not z)) ≡ true
      go true y z e = absurd (omega arith)
      go false true z e = absurd (omega arith)
      go false false true e = absurd (omega arith)
      go false false false e = refl

  -- one that takes more is ASCII
  low_more : 1 < length (escaped b) → b < 0x80
  low_more h = ⊎_elim (λ k. absurd (omega (arith, extra_none (omega arith) (λ e. omega arith) (λ e. omega arith)))) (λ k. k) (le_or_lt 0x80 b)

  grows_one : length (escaped b) ≡ 1 + extra_bytes (b ∷ [])
  grows_one = ap length (sym (append-nil (escaped b))) ∙ escaped_all_length (b ∷ [])

-- ---- the text so far

-- up to `at` the text is well-formed, has so many characters and takes so many bytes more in strings; no character that needs no escape
-- stands at `at`
pub record Sized (t : List ℕ) (at chars more : ℕ) : Type 0 where
  pub below : at ≤ length t
  pub well : is_well_formed (drop at t) ≡ is_well_formed t
  pub num : chars + number_of_chars (drop at t) ≡ number_of_chars t
  pub grows : more + extra_bytes (drop at t) ≡ extra_bytes t
  pub few : chars ≤ at
  pub short : more ≤ 5 * at
  pub stops : at < length t → is_raw (get_or t at 0) ≡ true → is_well_formed (drop at t) ≡ false

-- characters that need no escape, behind what was passed
module _ (t : List ℕ) (from to k : ℕ) (p : Plain t from to k) where
  parts : drop from t ≡ take (to - from) (drop from t) ++ drop to t
  parts =
      let e : from + (to - from) ≡ to = omega (arith, p.above) in
      sym (take-append-drop (to - from) (drop from t)) ∙ ap (λ l. take (to - from) (drop from t) ++ l) (drop-drop (to - from) from t ∙ ap (λ i. drop i t) e)

  well_past : is_well_formed (drop to t) ≡ is_well_formed (drop from t)
  well_past = sym (ap is_well_formed parts ∙ well_append (take (to - from) (drop from t)) (drop to t) (holds _ p.well))

  num_past : k + number_of_chars (drop to t) ≡ number_of_chars (drop from t)
  num_past = omega (arith, ap number_of_chars parts, num_append (take (to - from) (drop from t)) (drop to t), p.num)

  grows_past : extra_bytes (drop to t) ≡ extra_bytes (drop from t)
  grows_past = omega (arith, ap extra_bytes parts, extra_bytes_append (take (to - from) (drop from t)) (drop to t), plain_none (take (to - from) (drop from t)) p.raw)

  pub few_past : k ≤ to - from
  few_past = omega (arith, p.num, num_le (take (to - from) (drop from t)), length-take (to - from) (drop from t))

pub sized_first : (t : List ℕ) (to k : ℕ) → Plain t 0 to k → Sized t to k 0
sized_first t to k p =
    record {
      below = p.below;
      well = well_past t 0 to k p;
      num = num_past t 0 to k p;
      grows = zero-add _ ∙ grows_past t 0 to k p;
      few = omega (arith, few_past t 0 to k p);
      short = omega arith;
      stops = p.stops;
    }

-- the byte at `at` takes x more
module _ (t : List ℕ) (at chars more x : ℕ) (g : Sized t at chars more) (h : at < length t) (e : x + 1 ≡ length (escaped (get_or t at 0))) where
  pub sized_ill : x ≡ 0 → None ≡ sizes_of t
  unfolding sizes_of
  sized_ill z = rw (sym g.well ∙ g.stops h (raw_one (get_or t at 0) (omega arith)))

  pub sized_more : (x ≡ 0 → ⊥) → (to k : ℕ) → Plain t (at + 1) to k → Sized t to (chars + (1 + k)) (more + x)
  unfolding is_continuation
  sized_more z to k p =
      let low = low_more (get_or t at 0) (omega arith) in
      let d = next t at h in
      record {
        below = p.below;
        well = well_past t (at + 1) to k p ∙ sym (ap is_well_formed d ∙ ascii_on (get_or t at 0) (drop (at + 1) t) low) ∙ g.well;
        num = omega (arith, num_past t (at + 1) to k p, num_start t at h (under 0x80 0xBF (get_or t at 0) low), g.num);
        grows = omega (arith, grows_past t (at + 1) to k p, ap extra_bytes d, extra_bytes_append (get_or t at 0 ∷ []) (drop (at + 1) t), grows_one (get_or t at 0), g.grows);
        few = omega (arith, few_past t (at + 1) to k p, g.few, p.above);
        short = omega (arith, grows_one (get_or t at 0), extra_bytes_most (get_or t at 0 ∷ []), g.short, p.above);
        stops = p.stops;
      }

pub sized_end : (t : List ℕ) (at chars more : ℕ) → Sized t at chars more → length t ≤ at → (x : Texts) → x.chars ≡ chars → x.bytes ≡ length t + more → Some x ≡ sizes_of t
unfolding sizes_of extra_bytes
sized_end t at chars more g h x p q =
    let d : drop at t ≡ [] = drop_of_length-le t h in
    let c : x.chars ≡ number_of_chars t = omega (arith, p, g.num, ap number_of_chars d) in
    let m : x.bytes ≡ length (escaped_all t) = omega (arith, q, g.grows, ap extra_bytes d, escaped_all_length t) in
    rw (sym g.well ∙ ap is_well_formed d) (λ i. Some (record { chars = c i; bytes = m i }))
