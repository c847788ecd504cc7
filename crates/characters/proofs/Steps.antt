-- The bytes that are due behind a first byte.
use Rattle.std.specs.Prelude.{Some}
use Prim.Native.Nat.{ℕ, zero, suc, ◌<◌, ◌+◌, ◌-◌, ◌≤◌}
use mathlib.Core.Path.{◌≡◌, refl, sym, ap, ◌∙◌, ap₂}
use mathlib.Core.Bool.{◌&&◌, and_assoc, false, and-false, Bool, true, not, and-true, false≢true}
use mathlib.Core.List.{List, [], ◌∷◌, ◌++◌}
use lib.ListN.{take, drop, length, get_or, length-drop, take-append-drop}
use native.Mathlib.Omega.{arith}
use borrow.Author.Tests.{not-true, not-false}
use mathlib.Core.Logic.{⊎_elim}
use lib.Seq.{drop-drop}
use Rattle.characters.specs.Form.{within, well_formed_from, is_well_formed, whole, lead_from}
use Rattle.characters.specs.Chars.{is_continuation, number_of_chars, loose, chars_of}
use Rattle.characters.proofs.Chars.{any_range, length_chars, conts_loose, conts_chars, whole_conts}
use Rattle.characters.proofs.Walk.{next, rest_lead}
use Rattle.characters.proofs.Leads.{le_or_lt, sane_lead, cont_bad}

rest_whole : (l : List ℕ) (n lo hi : ℕ) → well_formed_from l (Some (n, lo, hi)) ≡ (whole (take n l) (Some (n, lo, hi)) && is_well_formed (drop n l))
rest_whole l zero lo hi = any_range l lo hi
rest_whole [] (suc n) lo hi = refl
rest_whole (b ∷ l) (suc n) lo hi = ap (λ z. within lo hi b && z) (rest_whole l n 0x80 0xBF) ∙ sym (and_assoc (within lo hi b) (whole (take n l) (Some (n, 0x80, 0xBF))) (is_well_formed (drop n l)))

whole_short : (l : List ℕ) (n lo hi : ℕ) → length l < n → whole (take n l) (Some (n, lo, hi)) ≡ false
whole_short l zero lo hi h = absurd (omega arith)
whole_short [] (suc n) lo hi h = refl
whole_short (b ∷ l) (suc n) lo hi h = ap (λ z. within lo hi b && z) (whole_short l n 0x80 0xBF (omega arith)) ∙ and-false (within lo hi b)

module _ (t : List ℕ) (at lo hi : ℕ) where
  pub due_short : (n : ℕ) → length t - at < n → false ≡ whole (take n (drop at t)) (Some (n, lo, hi))
  due_short n h = sym (whole_short (drop at t) n lo hi (simp length-drop h))

  pub due_none : (n : ℕ) → n ≡ 0 → true ≡ whole (take n (drop at t)) (Some (n, lo, hi))
  due_none n z = rw z

  -- the first of them, of n and one
  whole_next : (n : ℕ) → at < length t → whole (take (suc n) (drop at t)) (Some (suc n, lo, hi)) ≡ (within lo hi (get_or t at 0) && whole (take n (drop (at + 1) t)) (Some (n, 0x80, 0xBF)))
  whole_next n h = ap (λ l. whole (take (suc n) l) (Some (suc n, lo, hi))) (next t at h)

  module _ (a : Bool) (e : a ≡ within lo hi (get_or t at 0)) where
    pub first_out : (n : ℕ) → a ≡ false → at + suc n ≤ length t → false ≡ whole (take (suc n) (drop at t)) (Some (suc n, lo, hi))
    first_out n x h = sym (whole_next n (omega arith) ∙ ap (λ z. z && whole (take n (drop (at + 1) t)) (Some (n, 0x80, 0xBF))) (sym e ∙ x))

    pub first_in : (n : ℕ) {b : Bool} → a ≡ true → at + suc n ≤ length t → b ≡ whole (take n (drop (at + 1) t)) (Some (n, 0x80, 0xBF)) → b ≡ whole (take (suc n) (drop at t)) (Some (suc n, lo, hi))
    first_in n x h y = y ∙ sym (whole_next n (omega arith) ∙ ap (λ z. z && whole (take n (drop (at + 1) t)) (Some (n, 0x80, 0xBF))) (sym e ∙ x))

    pub only : at + 1 ≤ length t → a ≡ whole (take 1 (drop at t)) (Some (1, lo, hi))
    only h = e ∙ sym (whole_next 0 (omega arith) ∙ and-true (within lo hi (get_or t at 0)))

-- a first byte, and what is due behind it
module _ (t : List ℕ) (i : ℕ) (h : i < length t) {more lo hi : ℕ} (f : lead_from (get_or t i 0) ≡ Some (more, lo, hi)) where
  pub first_due : is_well_formed (drop i t) ≡ (whole (take more (drop (i + 1) t)) (Some (more, lo, hi)) && is_well_formed (drop (i + 1 + more) t))
  first_due =
      rest_lead t i h 0 0x80 0xBF refl
      ∙ ap (well_formed_from (drop (i + 1) t)) f
      ∙ rest_whole (drop (i + 1) t) more lo hi
      ∙ ap (λ l. whole (take more (drop (i + 1) t)) (Some (more, lo, hi)) && is_well_formed l) (drop-drop more (i + 1) t)

  -- where it stands there, the two are a character
  module _ (w : whole (take more (drop (i + 1) t)) (Some (more, lo, hi)) ≡ true) where
    pub room : i + 1 + more ≤ length t
    room =
        ⊎_elim
        (λ l. omega (arith, length-drop (i + 1) t))
        (λ l. absurd (false≢true (sym (whole_short (drop (i + 1) t) more lo hi l) ∙ w)))
        (le_or_lt more (length (drop (i + 1) t)))

    pub well_behind : is_well_formed (drop (i + 1 + more) t) ≡ is_well_formed (drop i t)
    well_behind = sym (first_due ∙ ap (λ z. z && is_well_formed (drop (i + 1 + more) t)) w)

    first_starts : is_continuation (get_or t i 0) ≡ false
    first_starts = go (is_continuation (get_or t i 0)) refl
      where
        go : (c : Bool) → is_continuation (get_or t i 0) ≡ c → c ≡ false
        go true p = absurd (let z : ◌≡◌ {A = ℕ} 0 1 = cc (cont_bad (get_or t i 0) p) in omega arith)
        go false p = refl

    pub first_char : chars_of (drop i t) ≡ (get_or t i 0 ∷ take more (drop (i + 1) t) ++ loose (drop (i + 1 + more) t)) ∷ chars_of (drop (i + 1 + more) t)
    first_char =
        let x = drop (i + 1) t in
        let c = whole_conts (take more x) (Some (more, lo, hi)) (rw f at (sane_lead (get_or t i 0))) w in
        let e : x ≡ take more x ++ drop (i + 1 + more) t = sym (take-append-drop more x) ∙ ap (λ l. take more x ++ l) (drop-drop more (i + 1) t) in
        rw (next t i h, first_starts)
        (ap₂ (λ p q. (get_or t i 0 ∷ p) ∷ q) (ap loose e ∙ conts_loose (take more x) (drop (i + 1 + more) t) c) (ap chars_of e ∙ conts_chars (take more x) (drop (i + 1 + more) t) c))

    pub first_num : number_of_chars (drop i t) ≡ suc (number_of_chars (drop (i + 1 + more) t))
    first_num = sym (length_chars (drop i t)) ∙ ap length first_char ∙ ap suc (length_chars (drop (i + 1 + more) t))
