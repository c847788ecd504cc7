-- Every string of a list is well-formed text.
use Rattle.std.specs.Prelude.{Some, None}
use Prim.Native.Nat.{ℕ, zero, suc, ◌+◌, ◌*◌, ◌<◌, ◌≤◌}
use native.Mathlib.Omega.{arith}
use mathlib.Core.Path.{◌≡◌, refl, sym, ap, ◌∙◌}
use mathlib.Core.Bool.{Bool, true, false, cond, not, ◌||◌, false≢true}
use mathlib.Core.List.{List, [], ◌∷◌, ◌++◌, append_assoc, append-nil}
use mathlib.Core.Option.{Option, none, some}
use lib.Dec.{T, ltb, eqb, leb}
use borrow.Author.Tests.{ltb-true, ne_eqb, le-ltb}
use Rattle.characters.specs.Scalar.{encode_scalar}
use Rattle.characters.specs.Form.{within, lead_from, well_formed_from, is_well_formed, Lead}
use Rattle.buffers.specs.Lists.{all_of}
use Rattle.buffers.proofs.Tests.{holds, known, le_and}
use Rattle.buffers.proofs.Tests as tests
use Rattle.characters.proofs.Leads.{within_bounds, sane, sane_lead}
use Rattle.characters.proofs.Bytes.{each_at}
use Rattle.characters.proofs.Chars.{split, well_append}
use Rattle.json_lists.specs.Form.{Item, number, string, is_white_space, is_digit, is_digit1_9, is_hex, value_of_hex, is_high, is_low, paired, Place, at_start, after_bracket, after_comma, after_minus, in_number, in_string, after_escape, in_unicode, after_high, after_high_escape, after_value, at_end, outside, begins, follows, in_text, escapes, named, counted, next, ends, items, in_form, read}
use Rattle.json_lists.proofs.Ascii.{lead_ascii, ascii_well, low_eq, low_space, low_digit1_9, low_digit, low_hex, low_self}
use Rattle.json_lists.proofs.Scalars.{named_scalar, encode_text, paired_scalar}

-- no byte is due
abbrev pub Clear : Lead → Type 0
Clear None = ⊥
Clear (Some (zero, lo, hi)) = Unit {0}
Clear (Some (suc n, lo, hi)) = ⊥

-- what is left of a text, where t was read of it
pub record Leads (t : List ℕ) (x : Lead) : Type 0 where
  pub goes_on : (u : List ℕ) → is_well_formed (t ++ u) ≡ well_formed_from u x

-- the values of which as many digits are due
abbrev below : ℕ → ℕ
below zero = 0x1000
below (suc zero) = 0x100
below (suc (suc zero)) = 0x10
below (suc (suc (suc zero))) = 1
below (suc (suc (suc (suc d)))) = 0

abbrev Half : Option ℕ → Type 0
Half none = Unit {0}
Half (some high) = T (is_high high)

-- a place, and what is due of a character where it stands
abbrev pub Sound : Place → Lead → Type 0
Sound at_start x = Clear x
Sound after_bracket x = Clear x
Sound after_comma x = Clear x
Sound after_minus x = Clear x
Sound (in_number s n) x = Clear x
Sound (in_string t) x = Leads t x
Sound (after_escape t) x = Clear x × T (is_well_formed t)
Sound (in_unicode high due v t) x = Clear x × T (is_well_formed t) × (v < below due) × Half high
Sound (after_high high t) x = Clear x × T (is_well_formed t) × T (is_high high)
Sound (after_high_escape high t) x = Clear x × T (is_well_formed t) × T (is_high high)
Sound after_value x = Clear x
Sound at_end x = Clear x
Sound outside x = Unit {0}

-- ---- by cases

pub cond_elim : {A : Type 0} (P : A → Type 0) (t : Bool) {x y : A} → (t ≡ true → P x) → (t ≡ false → P y) → P (cond t x y)
cond_elim P true f g = f refl
cond_elim P false f g = g refl

-- two texts that are well-formed are so one behind the other
join_well : (s t : List ℕ) → T (is_well_formed s) → T (is_well_formed t) → T (is_well_formed (s ++ t))
join_well s t h k = known (well_append s t (holds (is_well_formed s) h) ∙ holds (is_well_formed t) k)

implied : (a b : Bool) → (not a || b) ≡ true → a ≡ true → b ≡ true
implied true b e h = e
implied false b e h = absurd (false≢true h)

module _ (b : ℕ) where
  -- a hexadecimal digit is below 16
  pub hex_value : is_hex b ≡ true → value_of_hex b < 16
  unfolding is_hex value_of_hex
  hex_value e =
      let z : (not (is_hex b) || ltb (value_of_hex b) 16) ≡ true = each_at (λ b. not (is_hex b) || ltb (value_of_hex b) 16) 0 0x80 b refl (omega arith) (low_hex b e) in
      ltb-true (value_of_hex b) 16 (implied (is_hex b) (ltb (value_of_hex b) 16) z e)

  -- ---- one byte on

  abbrev Then : Place → Type 0
  Then p = Sound p (lead_from b)

  clear : b < 0x80 → Clear (lead_from b)
  clear h = rw (lead_ascii b h) tt

  leads_well : (t : List ℕ) → T (is_well_formed t) → b < 0x80 → Leads t (lead_from b)
  leads_well t w h = record { goes_on = λ u. well_append t u (holds (is_well_formed t) w) ∙ ap (well_formed_from u) (sym (lead_ascii b h)) }

  -- a character more
  leads_more : (t c : List ℕ) → T (is_well_formed t) → T (is_well_formed c) → b < 0x80 → Leads (t ++ c) (lead_from b)
  leads_more t c w v h = leads_well (t ++ c) (join_well t c w v) h

  sound_begins : Then (begins b)
  sound_begins =
      cond_elim Then (eqb b 0x22) (λ e. leads_well [] tt (low_eq b 0x22 (omega arith) e))
      (λ _. cond_elim Then (eqb b 0x2D) (λ e. clear (low_eq b 0x2D (omega arith) e))
      (λ _. cond_elim Then (is_digit1_9 b) (λ e. clear (low_digit1_9 b e)) (λ _. tt)))

  sound_follows : Then (follows b)
  sound_follows =
      cond_elim Then (is_white_space b) (λ e. clear (low_space b e))
      (λ _. cond_elim Then (eqb b 0x2C) (λ e. clear (low_eq b 0x2C (omega arith) e))
      (λ _. cond_elim Then (eqb b 0x5D) (λ e. clear (low_eq b 0x5D (omega arith) e)) (λ _. tt)))

  sound_text : (t : List ℕ) (lo hi : ℕ) → Leads t (Some (zero, lo, hi)) → Then (in_text t b)
  sound_text t lo hi h =
      cond_elim Then (eqb b 0x22) (λ e. clear (low_eq b 0x22 (omega arith) e))
      (λ _. cond_elim Then (eqb b 0x5C) (λ e. (clear (low_eq b 0x5C (omega arith) e), known (ap is_well_formed (sym (append-nil t)) ∙ h.goes_on [])))
      (λ _. cond_elim Then (ltb b 0x20) (λ _. tt) (λ _. record { goes_on = λ u. ap is_well_formed (append_assoc t (b ∷ []) u) ∙ h.goes_on (b ∷ u) })))

  sound_escapes : (t : List ℕ) → T (is_well_formed t) → Then (escapes t b)
  unfolding lead_from
  sound_escapes t w =
      cond_elim Then (eqb b 0x22 || eqb b 0x5C || eqb b 0x2F) (λ e. leads_more t (b ∷ []) w (ascii_well b (low_self b e)) (low_self b e))
      (λ _. cond_elim Then (eqb b 0x62) (λ e. leads_more t (0x08 ∷ []) w tt (low_eq b 0x62 (omega arith) e))
      (λ _. cond_elim Then (eqb b 0x66) (λ e. leads_more t (0x0C ∷ []) w tt (low_eq b 0x66 (omega arith) e))
      (λ _. cond_elim Then (eqb b 0x6E) (λ e. leads_more t (0x0A ∷ []) w tt (low_eq b 0x6E (omega arith) e))
      (λ _. cond_elim Then (eqb b 0x72) (λ e. leads_more t (0x0D ∷ []) w tt (low_eq b 0x72 (omega arith) e))
      (λ _. cond_elim Then (eqb b 0x74) (λ e. leads_more t (0x09 ∷ []) w tt (low_eq b 0x74 (omega arith) e))
      (λ _. cond_elim Then (eqb b 0x75) (λ e. (clear (low_eq b 0x75 (omega arith) e), w, omega arith, tt)) (λ _. tt)))))))

  sound_named : (high : Option ℕ) (v : ℕ) (t : List ℕ) → b < 0x80 → T (is_well_formed t) → v < 0x10000 → Half high → Then (named high v t)
  unfolding is_high is_low
  sound_named none v t l w h k =
      cond_elim Then (is_high v) (λ e. (clear l, w, known e))
      (λ x. cond_elim Then (is_low v) (λ _. tt)
      (λ y. leads_more t (encode_scalar v) w (encode_text v (named_scalar v h x y)) l))
  sound_named (some high) v t l w h k =
      cond_elim Then (is_low v) (λ e. leads_more t (encode_scalar (paired high v)) w (encode_text (paired high v) (paired_scalar high v k (known e))) l) (λ _. tt)

  sound_counted : (high : Option ℕ) (due v t' : ℕ) (t : List ℕ) → b < 0x80 → T (is_well_formed t) → v < below due → t' < 16 → Half high → Then (counted high due (v * 16 + t') t)
  sound_counted high zero v d t l w h m k = sound_named high (v * 16 + d) t l w (omega arith) k
  sound_counted high (suc zero) v d t l w h m k = (clear l, w, omega arith, k)
  sound_counted high (suc (suc zero)) v d t l w h m k = (clear l, w, omega arith, k)
  sound_counted high (suc (suc (suc zero))) v d t l w h m k = (clear l, w, omega arith, k)
  sound_counted high (suc (suc (suc (suc n)))) v d t l w h m k = absurd (omega arith)

  sound_next : (p : Place) (lo hi : ℕ) → Sound p (Some (zero, lo, hi)) → Then (next p b)
  unfolding next
  sound_next at_start lo hi h = cond_elim Then (is_white_space b) (λ e. clear (low_space b e)) (λ _. cond_elim Then (eqb b 0x5B) (λ e. clear (low_eq b 0x5B (omega arith) e)) (λ _. tt))
  sound_next after_bracket lo hi h = cond_elim Then (is_white_space b) (λ e. clear (low_space b e)) (λ _. cond_elim Then (eqb b 0x5D) (λ e. clear (low_eq b 0x5D (omega arith) e)) (λ _. sound_begins))
  sound_next after_comma lo hi h = cond_elim Then (is_white_space b) (λ e. clear (low_space b e)) (λ _. sound_begins)
  sound_next after_minus lo hi h = cond_elim Then (is_digit1_9 b) (λ e. clear (low_digit1_9 b e)) (λ _. tt)
  sound_next (in_number s n) lo hi h = cond_elim Then (is_digit b) (λ e. clear (low_digit b e)) (λ _. sound_follows)
  sound_next (in_string t) lo hi h = sound_text t lo hi h
  sound_next (after_escape t) lo hi h = sound_escapes t h.1
  sound_next (in_unicode high due v t) lo hi h = cond_elim Then (is_hex b) (λ e. sound_counted high due v (value_of_hex b) t (low_hex b e) h.1 h.2 (hex_value e) h.3) (λ _. tt)
  sound_next (after_high high t) lo hi h = cond_elim Then (eqb b 0x5C) (λ e. (clear (low_eq b 0x5C (omega arith) e), h.1, h.2)) (λ _. tt)
  sound_next (after_high_escape high t) lo hi h = cond_elim Then (eqb b 0x75) (λ e. (clear (low_eq b 0x75 (omega arith) e), h.1, omega arith, h.2)) (λ _. tt)
  sound_next after_value lo hi h = sound_follows
  sound_next at_end lo hi h = cond_elim Then (is_white_space b) (λ e. clear (low_space b e)) (λ _. tt)
  sound_next outside lo hi h = tt

-- ---- the whole

abbrev pub well_item : Item → Bool
well_item (number s n) = true
well_item (string t) = is_well_formed t

-- a string ends with a whole character
sound_ends : (p : Place) (b : ℕ) (lo hi : ℕ) → Sound p (Some (zero, lo, hi)) → T (all_of well_item (ends p b))
unfolding ends
sound_ends at_start b lo hi h = tt
sound_ends after_bracket b lo hi h = tt
sound_ends after_comma b lo hi h = tt
sound_ends after_minus b lo hi h = tt
sound_ends (in_number s n) b lo hi h = cond_elim (λ l. T (all_of well_item l)) (is_digit b) (λ _. tt) (λ _. tt)
sound_ends (in_string t) b lo hi h =
    cond_elim (λ l. T (all_of well_item l)) (eqb b 0x22) (λ _. (tests.both (is_well_formed t) true).1 (known (ap is_well_formed (sym (append-nil t)) ∙ h.goes_on []), tt)) (λ _. tt)
sound_ends (after_escape t) b lo hi h = tt
sound_ends (in_unicode high due v t) b lo hi h = tt
sound_ends (after_high high t) b lo hi h = tt
sound_ends (after_high_escape high t) b lo hi h = tt
sound_ends after_value b lo hi h = tt
sound_ends at_end b lo hi h = tt
sound_ends outside b lo hi h = tt

all_join : (l m : List Item) → T (all_of well_item l) → T (all_of well_item m) → T (all_of well_item (l ++ m))
all_join [] m h k = k
all_join (x ∷ l) m h k = let (f, g) = (tests.both (well_item x) (all_of well_item l)).0 h in (tests.both (well_item x) (all_of well_item (l ++ m))).1 (f, all_join l m g k)

-- a byte within a character stands in a string
inner_next : (p : Place) (b n lo hi : ℕ) → 0x80 ≤ b → within lo hi b ≡ true → Sound p (Some (suc n, lo, hi)) → Sound (next p b) (Some (n, 0x80, 0xBF)) × (ends p b ≡ [])
unfolding next ends
inner_next at_start b n lo hi k w h = absurd h
inner_next after_bracket b n lo hi k w h = absurd h
inner_next after_comma b n lo hi k w h = absurd h
inner_next after_minus b n lo hi k w h = absurd h
inner_next (in_number s m) b n lo hi k w h = absurd h
inner_next (in_string t) b n lo hi k w h =
    rw (ne_eqb b 0x22 (λ e. omega arith), ne_eqb b 0x5C (λ e. omega arith), le-ltb b 0x20 (omega arith))
    (record { goes_on = λ u. ap is_well_formed (append_assoc t (b ∷ []) u) ∙ h.goes_on (b ∷ u) ∙ rw w }, refl)
inner_next (after_escape t) b n lo hi k w h = absurd h.0
inner_next (in_unicode high due v t) b n lo hi k w h = absurd h.0
inner_next (after_high high t) b n lo hi k w h = absurd h.0
inner_next (after_high_escape high t) b n lo hi k w h = absurd h.0
inner_next after_value b n lo hi k w h = absurd h
inner_next at_end b n lo hi k w h = absurd h
inner_next outside b n lo hi k w h = (tt, refl)

pub items_well : (bs : List ℕ) (p : Place) (x : Lead) → T (sane x) → well_formed_from bs x ≡ true → Sound p x → T (all_of well_item (items p bs))
unfolding items
items_well [] p x s e h = tt
items_well (b ∷ bs) p None s e h = absurd (false≢true e)
items_well (b ∷ bs) p (Some (zero, lo, hi)) s e h = all_join (ends p b) (items (next p b) bs) (sound_ends p b lo hi h) (items_well bs (next p b) (lead_from b) (sane_lead b) e (sound_next b p lo hi h))
items_well (b ∷ bs) p (Some (suc n, lo, hi)) s e h =
    let (w, r) = split (within lo hi b) (well_formed_from bs (Some (n, 0x80, 0xBF))) e in
    let (l, _) = within_bounds lo hi b (known w) in
    let (x, y) = (le_and 0x80 lo (leb hi 0xBF)).0 s in
    let (f, g) = inner_next p b n lo hi (omega arith) w h in
    all_join (ends p b) (items (next p b) bs) (rw g tt) (items_well bs (next p b) (Some (n, 0x80, 0xBF)) tt r f)

-- so the characters of a string are all its bytes
pub strings_well : (list : List ℕ) (l : List Item) → read list ≡ some l → T (all_of well_item l)
unfolding read in_form
strings_well list l e = go (in_form list) refl e
  where
    go : (t : Bool) → in_form list ≡ t → cond t (some (items at_start list)) none ≡ some l → T (all_of well_item l)
    go true h e =
        let z : items at_start list ≡ l = cc e in
        rw (← z) (items_well list at_start (Some (0, 0x80, 0xBF)) tt (split (is_well_formed list) _ h).0 tt)
    go false h e = absurd (let z : ◌≡◌ {A = ℕ} 0 1 = cc e in omega arith)
