-- Cutting between characters, and joining.
use Rattle.std.specs.Prelude.{Some}
use Prim.Native.Nat.{ℕ, min, zero, suc, ◌≤◌}
use mathlib.Core.Path.{◌≡◌, ◌∙◌, refl, ap, ap₂, sym}
use mathlib.Core.List.{List, ◌++◌, append_assoc, [], ◌∷◌}
use lib.ListN.{take, take-append-drop, length-take, get_or, length}
use mathlib.Core.Bool.{Bool, true, false, cond, ◌&&◌, and_assoc}
use native.Mathlib.Omega.{arith}
use Rattle.buffers.specs.Lists.{all_of}
use Rattle.characters.specs.Chars.{loose, chars_of, take_chars, drop_chars, number_of_chars, is_continuation}
use Rattle.characters.specs.Form.{is_well_formed, whole, well_char}
use Rattle.characters.proofs.Chars.{all_take, is_char, loose_conts, chars_are, conts_chars, chars_concat, concat_chars, concat_append, length_chars, all_append, well_chars, well_all, num_le}

pub chars_take : (k : ℕ) (bs : List ℕ) → chars_of (take_chars k bs) ≡ take k (chars_of bs)
chars_take k bs = conts_chars (loose bs) _ (loose_conts bs) ∙ chars_concat (take k (chars_of bs)) (all_take is_char k (chars_of bs) (chars_are bs))

pub take_drop_chars : (k : ℕ) (bs : List ℕ) → take_chars k bs ++ drop_chars k bs ≡ bs
take_drop_chars k bs = rw (append_assoc, ← concat_append, take-append-drop) (concat_chars bs)

pub num_take : (k : ℕ) (bs : List ℕ) → number_of_chars (take_chars k bs) ≡ min k (number_of_chars bs)
num_take k bs = simp (← length_chars, chars_take, length-take)

-- joined where the second begins with a character
pub loose_append : (xs bs : List ℕ) → loose bs ≡ [] → loose (xs ++ bs) ≡ loose xs
loose_append [] bs e = e
loose_append (x ∷ xs) bs e = rw (loose_append xs bs e)

pub chars_append : (xs bs : List ℕ) → loose bs ≡ [] → chars_of (xs ++ bs) ≡ chars_of xs ++ chars_of bs
chars_append [] bs e = refl
chars_append (x ∷ xs) bs e = go (is_continuation x) (chars_append xs bs e) (loose_append xs bs e)
  where
    go : (t : Bool) → chars_of (xs ++ bs) ≡ chars_of xs ++ chars_of bs → loose (xs ++ bs) ≡ loose xs
        → cond t (chars_of (xs ++ bs)) ((x ∷ loose (xs ++ bs)) ∷ chars_of (xs ++ bs)) ≡ cond t (chars_of xs) ((x ∷ loose xs) ∷ chars_of xs) ++ chars_of bs
    go true e f = e
    go false e f = rw (e, f)

pub well_join : (xs bs : List ℕ) → loose bs ≡ [] → is_well_formed (xs ++ bs) ≡ (is_well_formed xs && is_well_formed bs)
well_join xs bs e =
    let second : is_well_formed bs ≡ all_of well_char (chars_of bs) = well_chars bs ∙ ap (λ l. whole l (Some (0, 0x80, 0xBF)) && all_of well_char (chars_of bs)) e in
    well_chars (xs ++ bs)
    ∙ ap₂ (λ l c. whole l (Some (0, 0x80, 0xBF)) && all_of well_char c) (loose_append xs bs e) (chars_append xs bs e)
    ∙ ap (λ b. whole (loose xs) (Some (0, 0x80, 0xBF)) && b) (all_append well_char (chars_of xs) (chars_of bs))
    ∙ sym (and_assoc (whole (loose xs) (Some (0, 0x80, 0xBF))) (all_of well_char (chars_of xs)) (all_of well_char (chars_of bs)))
    ∙ ap₂ ◌&&◌ (sym (well_chars xs)) (sym second)

-- what begins with no continuation
pub loose_first : (k : ℕ) (bs : List ℕ) → is_continuation (get_or bs 0 0) ≡ false → loose (take k bs) ≡ []
loose_first zero bs e = refl
loose_first (suc k) [] e = refl
loose_first (suc k) (b ∷ bs) e = rw e

-- a well-formed text begins with none, and one of as many characters as bytes has none
pub well_first : (k : ℕ) (bs : List ℕ) → 1 ≤ k → 1 ≤ length bs → is_well_formed (take k bs) ≡ true → is_continuation (get_or bs 0 0) ≡ false
well_first zero bs h l e = absurd (omega arith)
well_first (suc k) [] h l e = absurd (omega arith)
well_first (suc k) (b ∷ bs) h l e = go (is_continuation b) refl (well_all (b ∷ take k bs) e).0
  where
    go : (t : Bool) → is_continuation b ≡ t → cond t (b ∷ loose (take k bs)) [] ≡ [] → t ≡ false
    go true p q = absurd (let z : ◌≡◌ {A = ℕ} 0 1 = cc q in omega arith)
    go false p q = refl

pub plain_first : (k : ℕ) (bs : List ℕ) → 1 ≤ k → 1 ≤ length bs → length (take k bs) ≤ number_of_chars (take k bs) → is_continuation (get_or bs 0 0) ≡ false
plain_first zero bs h l e = absurd (omega arith)
plain_first (suc k) [] h l e = absurd (omega arith)
plain_first (suc k) (b ∷ bs) h l e = go (is_continuation b) refl e
  where
    go : (t : Bool) → is_continuation b ≡ t → suc (length (take k bs)) ≤ cond t (number_of_chars (take k bs)) (suc (number_of_chars (take k bs))) → t ≡ false
    go true p q = absurd (omega (arith, num_le (take k bs)))
    go false p q = refl
