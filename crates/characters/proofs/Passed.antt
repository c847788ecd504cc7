-- A text gone through character by character.
use Rattle.std.specs.Prelude.{cond, Option, Some, None, is_some}
use Prim.Native.Nat.{ℕ, ◌+◌, ◌<◌, zero-le, ◌-◌, ◌≤◌, zero, suc}
use mathlib.Core.Path.{◌≡◌, refl, sym, ◌∙◌, ap}
use mathlib.Core.Bool.{true, false, Bool, not, ◌&&◌, false≢true}
use mathlib.Core.List.{List, [], ◌++◌, append-nil}
use native.Mathlib.Omega.{arith}
use lib.Dec.{T, leb→le, eqb→eq}
use lib.ListN.{length, get_or, drop_of_length-le, take, drop, length-append, length-take, length-drop}
use borrow.Author.Tests.{not-true, not-false}
use Rattle.buffers.specs.Lists.{concat}
use Rattle.buffers.proofs.Tests.{known, holds}
use Rattle.characters.specs.Form.{is_well_formed, lead_from, well_formed_from, whole, Lead}
use Rattle.characters.specs.Chars.{number_of_chars, take_chars, chars_of}
use Rattle.characters.specs.InnerPassed.{form_of, Passed, spans}
use Rattle.characters.specs.InnerAscii.{Runs}
use Rattle.characters.proofs.Runs.{runs_well, runs_num, runs_one}
use Rattle.characters.proofs.Leads.{short_lead}
use Rattle.characters.proofs.Chars.{rest_bad, well_all, split}
use Rattle.characters.proofs.Walk.{rest_lead}
use Rattle.characters.proofs.Steps.{first_due, room, well_behind, first_num, first_char}

-- ---- what the text is

pub is_well : (t : List ℕ) (n : ℕ) → is_well_formed t ≡ true → n ≡ number_of_chars t → Some n ≡ form_of t
unfolding form_of
is_well t n w e = rw (w, e)

is_ill : (t : List ℕ) → is_well_formed t ≡ false → None ≡ form_of t
unfolding form_of
is_ill t w = rw w

module _ (t : List ℕ) (x : Option ℕ) (e : x ≡ form_of t) where
  -- where there is a number of characters
  pub form_tells : is_some x ≡ is_well_formed t
  unfolding form_of
  form_tells = rw e (go (is_well_formed t))
    where
      go : (w : Bool) → is_some (cond w (Some (number_of_chars t)) None) ≡ w
      go true = refl
      go false = refl

  pub form_ill : x ≡ None → false ≡ is_well_formed t
  form_ill f = go (is_well_formed t) refl
    where
      go : (w : Bool) → is_well_formed t ≡ w → false ≡ w
      go true p = absurd (let z : ◌≡◌ {A = ℕ} 0 1 = cc (is_well t (number_of_chars t) p refl) in omega arith)
      go false p = refl

  module _ {n : ℕ} (f : x ≡ Some n) where
    pub form_well : true ≡ is_well_formed t
    form_well = go (is_well_formed t) refl
      where
        go : (w : Bool) → is_well_formed t ≡ w → true ≡ w
        go true p = refl
        go false p = absurd (let z : ◌≡◌ {A = ℕ} 0 1 = cc (is_ill t p) in omega arith)

    pub form_holds : T (is_well_formed t)
    form_holds = known (sym form_well)

    pub form_num : n ≡ number_of_chars t
    form_num = let p = is_well t (number_of_chars t) (sym form_well) refl in cc

-- ---- passing

pub passed_run : (t : List ℕ) (i j conts : ℕ) → Passed t i conts → Runs t i j → Passed t j conts
passed_run t i j conts s r =
    let a = r.above in
    record { below = r.below; few = omega (arith, s.few); well = runs_well t i j r ∙ s.well; num = runs_num t i j r ∙ s.num }

pub passed_one : (t : List ℕ) (i conts : ℕ) → Passed t i conts → i < length t → get_or t i 0 < 0x80 → Passed t (i + 1) conts
passed_one t i conts s h l = passed_run t i (i + 1) conts s (runs_one t i h l)

pub passed_first : (t : List ℕ) (i : ℕ) → Runs t 0 i → Passed t i 0
passed_first t i r = passed_run t 0 i 0 (record { below = zero-le; few = zero-le; well = refl; num = refl }) r

pub passed_all : (t : List ℕ) (i conts : ℕ) → Passed t i conts → length t ≤ i → Some (length t - conts) ≡ form_of t
passed_all t i conts s h =
    let e = drop_of_length-le t h in
    is_well t (length t - conts) (sym s.well ∙ ap is_well_formed e) (omega (arith, s.below, s.few, s.num, ap number_of_chars e))

pub all_ascii : (t : List ℕ) (i : ℕ) → Runs t 0 i → i ≡ length t → Some i ≡ form_of t
all_ascii t i r e = let z : i ≡ length t - 0 = omega arith in rw z (passed_all t i 0 (passed_first t i r) (omega arith))

pub well_ascii : (t : List ℕ) (i : ℕ) → Runs t 0 i → i ≡ length t → true ≡ is_well_formed t
well_ascii t i r e = form_well t (Some i) (all_ascii t i r e) refl

module _ (t : List ℕ) (i conts : ℕ) (x : Lead) (s : Passed t i conts) (h : i < length t) (e : x ≡ lead_from (get_or t i 0)) where
  pub lead_bad : x ≡ None → None ≡ form_of t
  lead_bad f = is_ill t (sym s.well ∙ rest_lead t i h 0 0x80 0xBF refl ∙ ap (well_formed_from (drop (i + 1) t)) (sym e ∙ f) ∙ rest_bad (drop (i + 1) t))

  module _ {more lo hi : ℕ} (f : x ≡ Some (more, lo, hi)) where
    pub lead_few : more ≤ 3
    lead_few = leb→le more 3 (rw (sym e ∙ f) at (short_lead (get_or t i 0)))

    module _ (d : Bool) (g : d ≡ whole (take more (drop (i + 1) t)) (Some (more, lo, hi))) where
      pub not_due : not d ≡ true → None ≡ form_of t
      not_due k = is_ill t (sym s.well ∙ first_due t i h (sym e ∙ f) ∙ ap (λ z. z && is_well_formed (drop (i + 1 + more) t)) (sym g ∙ not-true d k))

      pub past_due : not d ≡ false → Passed t (i + 1 + more) (conts + more)
      past_due k =
          let l = sym e ∙ f in
          let w = sym g ∙ not-false d k in
          record {
            below = room t i h l w;
            few = omega (arith, s.few);
            well = well_behind t i h l w ∙ s.well;
            num = omega (arith, s.num, first_num t i h l w);
          }

-- ---- skipping

-- `to` is behind the first of the k characters that are to be passed from i on
pub record Skips (t : List ℕ) (i k to : ℕ) : Type 0 where
  pub above : i < to
  pub below : to ≤ length t
  pub well : T (is_well_formed (drop to t))
  pub taken : to + length (take_chars (k - 1) (drop to t)) ≡ i + length (take_chars k (drop i t))

pub skip_none : (t : List ℕ) (i k : ℕ) → T (is_well_formed (drop i t)) → k ≡ 0 → i ≡ i + length (take_chars k (drop i t))
skip_none t i k w z = rw (z, (well_all (drop i t) (holds (is_well_formed (drop i t)) w)).0) (omega arith)

skip_first : (t : List ℕ) (i k : ℕ) {more lo hi : ℕ} → i < length t → T (is_well_formed (drop i t)) → lead_from (get_or t i 0) ≡ Some (more, lo, hi) → 0 < k → Skips t i k (i + suc more)
skip_first t i zero h w f l = absurd (omega arith)
skip_first t i (suc k) {more} h w f l =
    let y = holds (is_well_formed (drop i t)) w in
    let d = split _ _ (sym (first_due t i h f) ∙ y) in
    let j : i + suc more ≡ i + 1 + more = omega arith in
    let r = room t i h f d.0 in
    let u = drop (i + 1 + more) t in
    let n : length (take more (drop (i + 1) t)) ≡ more = simp (length-take, length-drop) (omega arith) in
    let z : suc k - 1 ≡ k = omega arith in
    let p = concat (take k (chars_of u)) in
    let q : length ((take more (drop (i + 1) t) ++ []) ++ p) ≡ more + length p = simp (append-nil, length-append) (omega (arith, n)) in
    record {
      above = omega arith;
      below = omega arith;
      well = rw j (known d.1);
      taken = rw (j, z, (well_all (drop i t) y).0, first_char t i h f d.0, (well_all u d.1).0)
          (omega (arith, q));
    }

pub skip_char : (t : List ℕ) (i k n : ℕ) → i < length t → T (is_well_formed (drop i t)) → T (spans (lead_from (get_or t i 0)) n) → 0 < k → Skips t i k (i + n)
skip_char t i k n h w v l = go (lead_from (get_or t i 0)) refl v
  where
    go : (x : Lead) → lead_from (get_or t i 0) ≡ x → T (spans x n) → Skips t i k (i + n)
    go None f v = absurd (false≢true (sym (rest_lead t i h 0 0x80 0xBF refl ∙ ap (well_formed_from (drop (i + 1) t)) f ∙ rest_bad (drop (i + 1) t)) ∙ holds (is_well_formed (drop i t)) w))
    go (Some (more, lo, hi)) f v = rw (eqb→eq n (suc more) v) (skip_first t i k h w f l)
