-- What the characters of a list of bytes are, and how they go with well-formed text.
use Rattle.std.specs.Prelude.{Some, None}
use mathlib.Core.Path.{◌≡◌, refl, ap, sym, ◌∙◌}
use mathlib.Core.Bool.{Bool, true, ◌&&◌, and-eq-true_iff, and_assoc, false, cond, not, false≢true}
use Prim.Native.Nat.{ℕ, zero, suc, ◌+◌, ◌≤◌, zero-le}
use mathlib.Core.List.{List, [], ◌∷◌, ◌++◌, append-nil, append_assoc}
use lib.ListN.{take, drop, length}
use native.Mathlib.Nat.{zero-add}
use native.Mathlib.Omega.{arith}
use borrow.Author.Tests.{not-true}
use lib.Dec.{T}
use Rattle.buffers.specs.Lists.{all_of, concat}
use Rattle.characters.specs.Chars.{is_continuation, loose, chars_of, number_of_chars}
use Rattle.characters.specs.Form.{well_formed_from, is_well_formed, within, lead_from, whole, well_char, Lead}
use Rattle.characters.proofs.Leads.{sane, sane_lead, in_range, cont_bad}

pub both : (a b : Bool) → a ≡ true → b ≡ true → (a && b) ≡ true
both a b p q = rw (p, q)

pub split : (a b : Bool) → (a && b) ≡ true → (a ≡ true) × (b ≡ true)
split a b e = (and-eq-true_iff a b).0 e

module _ {A : Type 0} (p : A → Bool) where
  pub all_take : (k : ℕ) (l : List A) → all_of p l ≡ true → all_of p (take k l) ≡ true
  all_take zero l e = refl
  all_take (suc k) [] e = refl
  all_take (suc k) (x ∷ l) e = both (p x) (all_of p (take k l)) (split (p x) (all_of p l) e).0 (all_take k l (split (p x) (all_of p l) e).1)

  pub all_drop : (k : ℕ) (l : List A) → all_of p l ≡ true → all_of p (drop k l) ≡ true
  all_drop zero l e = e
  all_drop (suc k) [] e = refl
  all_drop (suc k) (x ∷ l) e = all_drop k l (split (p x) (all_of p l) e).1

  pub all_append : (l m : List A) → all_of p (l ++ m) ≡ (all_of p l && all_of p m)
  all_append [] m = refl
  all_append (x ∷ l) m = ap (λ b. p x && b) (all_append l m) ∙ sym (and_assoc (p x) (all_of p l) (all_of p m))

-- ---- characters of any bytes

-- the characters, with what stands loose before them, are all the bytes
pub concat_chars : (bs : List ℕ) → loose bs ++ concat (chars_of bs) ≡ bs
concat_chars [] = refl
concat_chars (b ∷ bs) = go (is_continuation b) (ap (λ (l : List ℕ). b ∷ l) (concat_chars bs))
  where
    go : (t : Bool) → b ∷ (loose bs ++ concat (chars_of bs)) ≡ b ∷ bs → cond t (b ∷ loose bs) [] ++ concat (cond t (chars_of bs) ((b ∷ loose bs) ∷ chars_of bs)) ≡ b ∷ bs
    go true e = e
    go false e = e

pub length_chars : (bs : List ℕ) → length (chars_of bs) ≡ number_of_chars bs
length_chars [] = refl
length_chars (b ∷ bs) = go (is_continuation b) (length_chars bs)
  where
    go : (t : Bool) → length (chars_of bs) ≡ number_of_chars bs → length (cond t (chars_of bs) ((b ∷ loose bs) ∷ chars_of bs)) ≡ cond t (number_of_chars bs) (suc (number_of_chars bs))
    go true e = e
    go false e = ap suc e

pub num_append : (xs bs : List ℕ) → number_of_chars (xs ++ bs) ≡ number_of_chars xs + number_of_chars bs
num_append [] bs = sym (zero-add (number_of_chars bs))
num_append (a ∷ xs) bs = go (is_continuation a) (num_append xs bs)
  where
    go : (t : Bool) → number_of_chars (xs ++ bs) ≡ number_of_chars xs + number_of_chars bs
        → cond t (number_of_chars (xs ++ bs)) (suc (number_of_chars (xs ++ bs))) ≡ cond t (number_of_chars xs) (suc (number_of_chars xs)) + number_of_chars bs
    go true e = e
    go false e = omega arith

pub num_le : (bs : List ℕ) → number_of_chars bs ≤ length bs
num_le [] = zero-le
num_le (b ∷ bs) = go (is_continuation b) (num_le bs)
  where
    go : (t : Bool) → number_of_chars bs ≤ length bs → cond t (number_of_chars bs) (suc (number_of_chars bs)) ≤ suc (length bs)
    go true h = omega arith
    go false h = omega arith

-- a byte that is no continuation, and then continuations
abbrev pub is_char : List ℕ → Bool
is_char [] = false
is_char (b ∷ bs) = not (is_continuation b) && all_of is_continuation bs

pub loose_conts : (bs : List ℕ) → all_of is_continuation (loose bs) ≡ true
loose_conts [] = refl
loose_conts (b ∷ bs) = go (is_continuation b) refl (loose_conts bs)
  where
    go : (t : Bool) → is_continuation b ≡ t → all_of is_continuation (loose bs) ≡ true → all_of is_continuation (cond t (b ∷ loose bs) []) ≡ true
    go true e h = both (is_continuation b) (all_of is_continuation (loose bs)) e h
    go false e h = refl

pub chars_are : (bs : List ℕ) → all_of is_char (chars_of bs) ≡ true
chars_are [] = refl
chars_are (b ∷ bs) = go (is_continuation b) refl (chars_are bs)
  where
    go : (t : Bool) → is_continuation b ≡ t → all_of is_char (chars_of bs) ≡ true → all_of is_char (cond t (chars_of bs) ((b ∷ loose bs) ∷ chars_of bs)) ≡ true
    go true e h = h
    go false e h = rw (e, loose_conts bs) h

-- continuations before bytes
pub conts_loose : (p bs : List ℕ) → all_of is_continuation p ≡ true → loose (p ++ bs) ≡ p ++ loose bs
conts_loose [] bs e = refl
conts_loose (b ∷ p) bs e = let h = split (is_continuation b) (all_of is_continuation p) e in rw (h.0, conts_loose p bs h.1)

pub conts_chars : (p bs : List ℕ) → all_of is_continuation p ≡ true → chars_of (p ++ bs) ≡ chars_of bs
conts_chars [] bs e = refl
conts_chars (b ∷ p) bs e = let h = split (is_continuation b) (all_of is_continuation p) e in rw (h.0, conts_chars p bs h.1)

-- a character first: its parts
char_first : (b : ℕ) (p : List ℕ) (cs : List (List ℕ)) → all_of is_char ((b ∷ p) ∷ cs) ≡ true → (is_continuation b ≡ false) × (all_of is_continuation p ≡ true) × (all_of is_char cs ≡ true)
char_first b p cs e =
    let f = split (is_char (b ∷ p)) (all_of is_char cs) e in
    let g = split (not (is_continuation b)) (all_of is_continuation p) f.0 in
    (not-true (is_continuation b) g.0, g.1, f.1)

-- characters put end to end are those characters again
pub loose_concat : (cs : List (List ℕ)) → all_of is_char cs ≡ true → loose (concat cs) ≡ []
loose_concat [] e = refl
loose_concat ([] ∷ cs) e = absurd (false≢true e)
loose_concat ((b ∷ p) ∷ cs) e = rw (char_first b p cs e).0

pub chars_concat : (cs : List (List ℕ)) → all_of is_char cs ≡ true → chars_of (concat cs) ≡ cs
chars_concat [] e = refl
chars_concat ([] ∷ cs) e = absurd (false≢true e)
chars_concat ((b ∷ p) ∷ cs) e =
    let (f, g, h) = char_first b p cs e in
    rw (f, conts_loose p (concat cs) g, conts_chars p (concat cs) g, loose_concat cs h, append-nil, chars_concat cs h)

pub concat_append : (xs bs : List (List ℕ)) → concat (xs ++ bs) ≡ concat xs ++ concat bs
concat_append [] bs = refl
concat_append (a ∷ xs) bs = rw (concat_append xs bs, append_assoc)

-- ---- well-formed text

pub rest_bad : (bs : List ℕ) → well_formed_from bs None ≡ false
rest_bad [] = refl
rest_bad (b ∷ bs) = refl

pub any_range : (bs : List ℕ) (lo hi : ℕ) → well_formed_from bs (Some (0, lo, hi)) ≡ is_well_formed bs
any_range [] lo hi = refl
any_range (b ∷ bs) lo hi = refl

rest_append : (xs bs : List ℕ) (x : Lead) → well_formed_from xs x ≡ true → well_formed_from (xs ++ bs) x ≡ is_well_formed bs
rest_append [] bs None e = absurd (false≢true e)
rest_append [] bs (Some (zero, lo, hi)) e = any_range bs lo hi
rest_append [] bs (Some (suc n, lo, hi)) e = absurd (false≢true e)
rest_append (a ∷ xs) bs None e = absurd (false≢true e)
rest_append (a ∷ xs) bs (Some (zero, lo, hi)) e = rest_append xs bs (lead_from a) e
rest_append (a ∷ xs) bs (Some (suc n, lo, hi)) e =
    let h = split (within lo hi a) (well_formed_from xs (Some (n, 0x80, 0xBF))) e in rw h.0 (rest_append xs bs (Some (n, 0x80, 0xBF)) h.1)

-- behind a well-formed text, all is as well-formed as what follows
pub well_append : (xs bs : List ℕ) → is_well_formed xs ≡ true → is_well_formed (xs ++ bs) ≡ is_well_formed bs
well_append xs bs e = rest_append xs bs (Some (0, 0x80, 0xBF)) e

rest_chars : (bs : List ℕ) (x : Lead) → T (sane x) → well_formed_from bs x ≡ (whole (loose bs) x && all_of well_char (chars_of bs))
rest_chars [] None s = refl
rest_chars [] (Some (zero, lo, hi)) s = refl
rest_chars [] (Some (suc n, lo, hi)) s = refl
rest_chars (b ∷ bs) x s = go (is_continuation b) refl x s (rest_chars bs)
  where
    go : (t : Bool) → is_continuation b ≡ t → (x : Lead) → T (sane x) → ((y : Lead) → T (sane y) → well_formed_from bs y ≡ (whole (loose bs) y && all_of well_char (chars_of bs)))
        → well_formed_from (b ∷ bs) x ≡ (whole (cond t (b ∷ loose bs) []) x && all_of well_char (cond t (chars_of bs) ((b ∷ loose bs) ∷ chars_of bs)))
    go true e None s ih = refl
    go true e (Some (zero, lo, hi)) s ih = rw (cont_bad b e) (rest_bad bs)
    go true e (Some (suc n, lo, hi)) s ih = rw (ih (Some (n, 0x80, 0xBF)) tt, and_assoc)
    go false e None s ih = refl
    go false e (Some (zero, lo, hi)) s ih = ih (lead_from b) (sane_lead b)
    go false e (Some (suc n, lo, hi)) s ih = rw (in_range lo hi b s e)

-- a text is well-formed where nothing stands loose and each character is well-formed
pub well_chars : (bs : List ℕ) → is_well_formed bs ≡ (whole (loose bs) (Some (0, 0x80, 0xBF)) && all_of well_char (chars_of bs))
well_chars bs = rest_chars bs (Some (0, 0x80, 0xBF)) tt

pub well_all : (bs : List ℕ) → is_well_formed bs ≡ true → (loose bs ≡ []) × (all_of well_char (chars_of bs) ≡ true)
well_all bs e = let h = split (whole (loose bs) (Some (0, 0x80, 0xBF))) (all_of well_char (chars_of bs)) (sym (well_chars bs) ∙ e) in (none (loose bs) h.0, h.1)
  where
    none : (l : List ℕ) → whole l (Some (0, 0x80, 0xBF)) ≡ true → l ≡ []
    none [] h = refl
    none (x ∷ l) h = absurd (false≢true h)

whole_rest : (bs : List ℕ) (x : Lead) → whole bs x ≡ true → well_formed_from bs x ≡ true
whole_rest [] None e = e
whole_rest [] (Some (zero, lo, hi)) e = e
whole_rest [] (Some (suc n, lo, hi)) e = e
whole_rest (b ∷ bs) None e = e
whole_rest (b ∷ bs) (Some (zero, lo, hi)) e = absurd (false≢true e)
whole_rest (b ∷ bs) (Some (suc n, lo, hi)) e =
    let h = split (within lo hi b) (whole bs (Some (n, 0x80, 0xBF))) e in both (within lo hi b) (well_formed_from bs (Some (n, 0x80, 0xBF))) h.0 (whole_rest bs (Some (n, 0x80, 0xBF)) h.1)

-- RFC 3629's UTF8-octets = *( UTF8-char )
pub well_concat : (cs : List (List ℕ)) → all_of well_char cs ≡ true → is_well_formed (concat cs) ≡ true
well_concat [] e = refl
well_concat (c ∷ cs) e =
    let h = split (well_char c) (all_of well_char cs) e in well_append c (concat cs) (one c h.0) ∙ well_concat cs h.1
  where
    one : (c : List ℕ) → well_char c ≡ true → is_well_formed c ≡ true
    one [] h = refl
    one (b ∷ bs) h = whole_rest bs (lead_from b) h

-- one well-formed character is one character
pub whole_conts : (bs : List ℕ) (x : Lead) → T (sane x) → whole bs x ≡ true → all_of is_continuation bs ≡ true
whole_conts [] x s e = refl
whole_conts (b ∷ bs) None s e = absurd (false≢true e)
whole_conts (b ∷ bs) (Some (zero, lo, hi)) s e = absurd (false≢true e)
whole_conts (b ∷ bs) (Some (suc n, lo, hi)) s e =
    let (w, r) = split (within lo hi b) (whole bs (Some (n, 0x80, 0xBF))) e in
    both (is_continuation b) (all_of is_continuation bs) (go (is_continuation b) refl w) (whole_conts bs (Some (n, 0x80, 0xBF)) tt r)
  where
    go : (t : Bool) → is_continuation b ≡ t → within lo hi b ≡ true → is_continuation b ≡ true
    go true p w = p
    go false p w = absurd (false≢true (sym (in_range lo hi b s p) ∙ w))

pub well_is_char : (c : List ℕ) → well_char c ≡ true → is_char c ≡ true
well_is_char [] e = e
well_is_char (b ∷ bs) e = go (is_continuation b) refl
  where
    go : (t : Bool) → is_continuation b ≡ t → (not t && all_of is_continuation bs) ≡ true
    go true p = absurd (false≢true (none bs ∙ rw (cont_bad b p) at e))
      where
        none : (l : List ℕ) → false ≡ whole l None
        none [] = refl
        none (x ∷ l) = refl
    go false p = whole_conts bs (lead_from b) (sane_lead b) e
