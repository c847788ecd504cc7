-- Characters that need no escape, passed one stretch after another.
use Rattle.std.specs.Prelude.{◌≡◌, ℕ, suc, ◌+◌, ◌-◌, ◌<◌, ◌≤◌, Bool, true, false, not, T, ltb, List, [], ◌∷◌, ◌++◌, length, get_or, take, drop}
use native.Mathlib.Omega.{arith}
use mathlib.Core.Path.{refl, sym, ap, ap₂, ◌∙◌}
use mathlib.Core.List.{append-nil}
use mathlib.Core.Logic.{⊎_elim}
use lib.ListN.{length-take, length-drop}
use lib.Seq.{take-add, drop-drop}
use borrow.Author.Tests.{not-true, not-false, ne_eqb, le-ltb, ltb-true, ltb-false}
use Rattle.buffers.specs.Lists.{all_of}
use Rattle.buffers.proofs.Tests.{both, holds, known}
use Rattle.characters.specs.Form.{is_well_formed, well_char, lead_from}
use Rattle.characters.specs.Chars.{is_continuation, number_of_chars}
use Rattle.characters.proofs.Chars.{all_append, num_append, well_append, well_concat, well_is_char, whole_conts}
use Rattle.characters.proofs.Leads.{le_or_lt, under, within_bounds, sane_lead}
use Rattle.characters.proofs.Walk.{next}
use Rattle.utf8.specs.InnerChars.{CharAt}
use Rattle.json_lists.specs.Grammar.{is_raw}
use Rattle.json_lists.specs.InnerRuns.{Run, Plain}
use Rattle.json_lists.proofs.Ascii.{lead_ascii, ascii_on}
use Rattle.json_lists.proofs.Scalars.{one_char}
use Rattle.json_strings.specs.InnerStrings.{is_plain, Plains}

-- ---- stretches of a list

pub joined : (t : List ℕ) (at i j : ℕ) → at ≤ i → i ≤ j → take (j - at) (drop at t) ≡ take (i - at) (drop at t) ++ take (j - i) (drop i t)
joined t at i j h k =
    let e : j - at ≡ (i - at) + (j - i) = omega arith in
    let z : at + (i - at) ≡ i = omega arith in
    ap (λ n. take n (drop at t)) e ∙ take-add (i - at) (j - i) (drop at t)
    ∙ ap (λ l. take (i - at) (drop at t) ++ take (j - i) l) (drop-drop (i - at) at t ∙ ap (λ k. drop k t) z)

pub empty : (t : List ℕ) (at : ℕ) → take (at - at) (drop at t) ≡ []
empty t at = let z : at - at ≡ 0 = omega arith in ap (λ n. take n (drop at t)) z

pub one : (t : List ℕ) (i : ℕ) → i < length t → take (i + 1 - i) (drop i t) ≡ get_or t i 0 ∷ []
one t i h = let z : i + 1 - i ≡ 1 = omega arith in ap₂ take z (next t i h)

pub all_join : (test : ℕ → Bool) (xs ys : List ℕ) → T (all_of test xs) → T (all_of test ys) → T (all_of test (xs ++ ys))
all_join test xs ys h k = rw (all_append test xs ys) ((both (all_of test xs) (all_of test ys)).1 (h, k))

-- ---- plain bytes

module _ (t : List ℕ) (at : ℕ) where
  pub plains_none : at ≤ length t → Plains t at at
  plains_none h = record { above = omega arith; below = h; all = rw (empty t at) tt }

  plains_join : (i j : ℕ) → Plains t at i → i ≤ j → j ≤ length t → T (all_of is_plain (take (j - i) (drop i t))) → Plains t at j
  plains_join i j p h k a =
      record { above = omega (arith, p.above); below = k; all = rw (joined t at i j p.above h) (all_join is_plain (take (i - at) (drop at t)) (take (j - i) (drop i t)) p.all a) }

  pub plains_eight : (i : ℕ) {b : Bool} → Plains t at i → b ≡ all_of is_plain (take 8 (drop i t)) → not b ≡ false → 8 ≤ length t - i → Plains t at (i + 8)
  plains_eight i {b} p e n l =
      let z : 8 ≡ i + 8 - i = omega arith in
      let k = p.below in
      plains_join i (i + 8) p (omega arith) (omega arith) (known (ap (λ n. all_of is_plain (take n (drop i t))) (sym z) ∙ sym e ∙ not-false b n))

  module _ (i : ℕ) (p : Plains t at i) where
    pub run_whole : length t ≤ i → Run is_plain t at i
    run_whole h = record { above = p.above; below = p.below; all = p.all; stops = λ l. absurd (omega arith) }

    module _ (h : i < length t) {b : Bool} (e : b ≡ is_plain (get_or t i 0)) where
      pub run_stop : not b ≡ true → Run is_plain t at i
      run_stop n = record { above = p.above; below = p.below; all = p.all; stops = λ _. sym e ∙ not-true b n }

      pub plains_byte : not b ≡ false → Plains t at (i + 1)
      plains_byte n = plains_join i (i + 1) p (omega arith) (omega arith) (rw (one t i h, ← e, not-false b n) tt)

-- ---- what a stretch is

plain_split : (b : ℕ) → T (is_plain b) → T (is_raw b) × (b < 0x80)
unfolding is_plain
plain_split b h = let (r, l) = (both (is_raw b) (ltb b 0x80)).0 h in (r, ltb-true b 0x80 (holds _ l))

plain_raw : (xs : List ℕ) → T (all_of is_plain xs) → T (all_of is_raw xs)
plain_raw [] h = tt
plain_raw (b ∷ xs) h =
    let (p, k) = (both (is_plain b) (all_of is_plain xs)).0 h in
    (both (is_raw b) (all_of is_raw xs)).1 ((plain_split b p).0, plain_raw xs k)

plain_well : (xs : List ℕ) → T (all_of is_plain xs) → is_well_formed xs ≡ true
plain_well [] h = refl
plain_well (b ∷ xs) h =
    let (p, k) = (both (is_plain b) (all_of is_plain xs)).0 h in
    ascii_on b xs (plain_split b p).1 ∙ plain_well xs k

plain_num : (xs : List ℕ) → T (all_of is_plain xs) → number_of_chars xs ≡ length xs
unfolding is_continuation
plain_num [] h = refl
plain_num (b ∷ xs) h =
    let (p, k) = (both (is_plain b) (all_of is_plain xs)).0 h in
    rw (under 0x80 0xBF b (plain_split b p).1) (ap suc (plain_num xs k))

raw_high : (b : ℕ) → 0x80 ≤ b → T (is_raw b)
unfolding is_raw
raw_high b h = rw (ne_eqb b 0x22 (λ e. omega arith), ne_eqb b 0x5C (λ e. omega arith), le-ltb b 0x20 (omega arith)) tt

conts_raw : (bs : List ℕ) → all_of is_continuation bs ≡ true → T (all_of is_raw bs)
unfolding is_continuation
conts_raw [] e = tt
conts_raw (b ∷ bs) e =
    let (p, k) = (both (is_continuation b) (all_of is_continuation bs)).0 (known e) in
    (both (is_raw b) (all_of is_raw bs)).1 (raw_high b (within_bounds 0x80 0xBF b p).0, conts_raw bs (holds _ k))

-- a character of several bytes needs no escape
char_raw : (c : List ℕ) → 2 ≤ length c → T (well_char c) → T (all_of is_raw c)
char_raw [] l h = absurd (omega arith)
char_raw (b ∷ []) l h = absurd (omega arith)
char_raw (b ∷ d ∷ bs) l h =
    (both (is_raw b) (all_of is_raw (d ∷ bs))).1
    (⊎_elim (raw_high b) (λ k. absurd (rw (lead_ascii b k) at h)) (le_or_lt 0x80 b), conts_raw (d ∷ bs) (whole_conts (d ∷ bs) (lead_from b) (sane_lead b) (holds _ h)))

char_well : (c : List ℕ) → T (well_char c) → is_well_formed c ≡ true
char_well c h = ap is_well_formed (sym (append-nil c)) ∙ well_concat (c ∷ []) (rw (holds (well_char c) h))

-- ---- whole characters so far

-- from `at` to i stand whole characters that need no escape, with so many continuations among their bytes; what follows is not plain ASCII
pub record SoFar (t : List ℕ) (at i conts : ℕ) : Type 0 where
  pub above : at ≤ i
  pub below : i ≤ length t
  pub raw : T (all_of is_raw (take (i - at) (drop at t)))
  pub well : is_well_formed (take (i - at) (drop at t)) ≡ true
  pub num : conts + number_of_chars (take (i - at) (drop at t)) ≡ i - at
  pub stops : i < length t → is_plain (get_or t i 0) ≡ false

taken : (t : List ℕ) (at i : ℕ) → at ≤ i → i ≤ length t → length (take (i - at) (drop at t)) ≡ i - at
taken t at i h k = simp (length-take, length-drop) (omega arith)

pub begun : (t : List ℕ) (at i : ℕ) → Run is_plain t at i → SoFar t at i 0
begun t at i r =
    let xs = take (i - at) (drop at t) in
    record {
      above = r.above;
      below = r.below;
      raw = plain_raw xs r.all;
      well = plain_well xs r.all;
      num = omega (arith, plain_num xs r.all, taken t at i r.above r.below);
      stops = r.stops;
    }

module _ (t : List ℕ) (at i conts : ℕ) (s : SoFar t at i conts) where
  pub few_conts : conts ≤ i - at
  few_conts = omega (arith, s.num)

  spanned : (i < length t → is_raw (get_or t i 0) ≡ true → is_well_formed (drop i t) ≡ false) → Plain t at i (i - at - conts)
  spanned f = record { above = s.above; below = s.below; raw = s.raw; well = known s.well; num = omega (arith, s.num); few = omega arith; stops = f }

  pub span_whole : length t ≤ i → Plain t at i (i - at - conts)
  span_whole h = spanned (λ l. absurd (omega arith))

  module _ (more : ℕ) (c : CharAt t i more) where
    -- neither plain nor a character
    pub span_stops : more ≡ 0 → Plain t at i (i - at - conts)
    unfolding is_plain
    span_stops z = spanned (λ l r. c.none z (high l r))
      where
        high : i < length t → is_raw (get_or t i 0) ≡ true → 0x80 ≤ get_or t i 0
        high l r = ltb-false (get_or t i 0) 0x80 (rw r at (s.stops l))

    -- a character, and plain bytes behind it
    pub span_char : (more ≡ 0 → ⊥) → (j : ℕ) → Run is_plain t (i + 1 + more) j → SoFar t at j (conts + more)
    span_char n j r =
        let m : 1 ≤ more = omega arith in
        let w = c.well m in
        let z : i + 1 + more ≡ i + suc more = omega arith in
        let ch = take (i + 1 + more - i) (drop i t) in
        let k : ch ≡ take (suc more) (drop i t) = let y : i + 1 + more - i ≡ suc more = omega arith in ap (λ n. take n (drop i t)) y in
        let lc : length ch ≡ suc more = omega (arith, taken t i (i + 1 + more) (omega arith) (omega (arith, c.there))) in
        let wc : T (well_char ch) = rw k w in
        let xs = take (i - at) (drop at t) in
        let ys = take (j - (i + 1 + more)) (drop (i + 1 + more) t) in
        let e : take (j - at) (drop at t) ≡ xs ++ (ch ++ ys) = joined t at i j s.above (omega (arith, r.above)) ∙ ap (λ l. xs ++ l) (joined t i (i + 1 + more) j (omega arith) r.above) in
        record {
          above = omega (arith, s.above, r.above);
          below = r.below;
          raw = rw e (all_join is_raw xs (ch ++ ys) s.raw (all_join is_raw ch ys (char_raw ch (omega arith) wc) (plain_raw ys r.all)));
          well = rw e (well_append xs (ch ++ ys) s.well ∙ well_append ch ys (char_well ch wc) ∙ plain_well ys r.all);
          num =
              let a = num_append xs (ch ++ ys) in
              let b = num_append ch ys in
              let d = one_char ch (well_is_char ch (holds _ wc)) in
              let f = plain_num ys r.all in
              let g = taken t (i + 1 + more) j r.above r.below in
              let u : number_of_chars (take (j - at) (drop at t)) ≡ number_of_chars (xs ++ (ch ++ ys)) = ap number_of_chars e in
              omega (arith, s.num, s.above, r.above);
          stops = r.stops;
        }
