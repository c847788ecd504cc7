-- The texts that are still to be copied, from one position of a list to the next.
use Rattle.std.specs.Prelude.{◌≡◌, ℕ, zero, suc, ◌+◌, ◌*◌, Bool, true, false, cond, ◌||◌, T, eqb, ltb, ◌⊎◌, List, [], ◌∷◌, ◌++◌}
use mathlib.Core.Path.{refl, sym, ap, ◌∙◌}
use mathlib.Core.Bool.{false≢true, true≢false}
use mathlib.Core.List.{append_assoc, append-nil}
use mathlib.Core.Option.{Option, none, some}
use mathlib.Core.Logic.{inl, inr, ⊎_elim}
use borrow.Author.Tests.{ne_eqb}
use Rattle.json_lists.specs.Form.{Sign, Item, number, string, is_white_space, is_digit, is_digit1_9, is_hex, value_of_hex, is_high, is_low}
use Rattle.json_lists.specs.Form.{Place, at_start, after_bracket, after_comma, after_minus, in_number, in_string, after_escape}
use Rattle.json_lists.specs.Form.{in_unicode, after_high, after_high_escape, after_value, at_end, outside, is_end}
use Rattle.json_lists.specs.Form.{begins, follows as after, named, counted, next, ends, reached, items}
use Rattle.json_lists.proofs.Reading.{inside, outside_stays}
use Rattle.json_lists.proofs.Strings.{cond_elim}
use Rattle.json_texts.specs.InnerTexts.{texts}

-- ---- texts of joined lists

pub texts_join : (l m : List Item) → texts (l ++ m) ≡ texts l ++ texts m
texts_join [] m = refl
texts_join (number s n ∷ l) m = texts_join l m
texts_join (string t ∷ l) m = ap (λ r. t ++ r) (texts_join l m) ∙ sym (append_assoc t (texts l) (texts m))

-- outside of the form no list ends
not_outside : (p : Place) (bs : List ℕ) → is_end (reached p bs) ≡ true → p ≡ outside → ⊥
not_outside p bs e o = false≢true (sym (ap is_end (outside_stays bs)) ∙ sym (ap (λ q. is_end (reached q bs)) o) ∙ e)

-- ---- a string's text so far

-- the place with more text in front
abbrev longer : List ℕ → Place → Place
longer s at_start = at_start
longer s after_bracket = after_bracket
longer s after_comma = after_comma
longer s after_minus = after_minus
longer s (in_number g n) = in_number g n
longer s (in_string t) = in_string (s ++ t)
longer s (after_escape t) = after_escape (s ++ t)
longer s (in_unicode high due v t) = in_unicode high due v (s ++ t)
longer s (after_high high t) = after_high high (s ++ t)
longer s (after_high_escape high t) = after_high_escape high (s ++ t)
longer s after_value = after_value
longer s at_end = at_end
longer s outside = outside

module _ (s : List ℕ) where
  either : (x : Bool) (c d : Place) {a b : Place} → a ≡ longer s c → b ≡ longer s d → cond x a b ≡ longer s (cond x c d)
  either true c d f g = f
  either false c d f g = g

  text_then : (t u : List ℕ) → in_string ((s ++ t) ++ u) ≡ in_string (s ++ (t ++ u))
  text_then t u = ap in_string (append_assoc s t u)

  longer_named : (high : Option ℕ) (v : ℕ) (t : List ℕ) → named high v (s ++ t) ≡ longer s (named high v t)
  longer_named none v t = either (is_high v) _ _ refl (either (is_low v) _ _ refl (text_then t _))
  longer_named (some high) v t = either (is_low v) _ _ (text_then t _) refl

  longer_counted : (high : Option ℕ) (due v : ℕ) (t : List ℕ) → counted high due v (s ++ t) ≡ longer s (counted high due v t)
  longer_counted high zero v t = longer_named high v t
  longer_counted high (suc due) v t = refl

  longer_next : (p : Place) (b : ℕ) → T (inside p) → next (longer s p) b ≡ longer s (next p b)
  unfolding next
  longer_next at_start b h = absurd h
  longer_next after_bracket b h = absurd h
  longer_next after_comma b h = absurd h
  longer_next after_minus b h = absurd h
  longer_next (in_number g n) b h = absurd h
  longer_next (in_string t) b h =
      either (eqb b 0x22) _ _ refl (either (eqb b 0x5C) _ _ refl (either (ltb b 0x20) _ _ refl (text_then t (b ∷ []))))
  longer_next (after_escape t) b h =
      either (eqb b 0x22 || eqb b 0x5C || eqb b 0x2F) _ _ (text_then t (b ∷ []))
      (either (eqb b 0x62) _ _ (text_then t (0x08 ∷ []))
      (either (eqb b 0x66) _ _ (text_then t (0x0C ∷ []))
      (either (eqb b 0x6E) _ _ (text_then t (0x0A ∷ []))
      (either (eqb b 0x72) _ _ (text_then t (0x0D ∷ []))
      (either (eqb b 0x74) _ _ (text_then t (0x09 ∷ [])) (either (eqb b 0x75) _ _ refl refl))))))
  longer_next (in_unicode high due v t) b h = either (is_hex b) _ _ (longer_counted high due (v * 16 + value_of_hex b) t) refl
  longer_next (after_high high t) b h = either (eqb b 0x5C) _ _ refl refl
  longer_next (after_high_escape high t) b h = either (eqb b 0x75) _ _ refl refl
  longer_next after_value b h = absurd h
  longer_next at_end b h = absurd h
  longer_next outside b h = absurd h

  longer_ends : (p : Place) → T (inside p) → is_end (longer s p) ≡ false
  longer_ends at_start h = absurd h
  longer_ends after_bracket h = absurd h
  longer_ends after_comma h = absurd h
  longer_ends after_minus h = absurd h
  longer_ends (in_number g n) h = absurd h
  longer_ends (in_string t) h = refl
  longer_ends (after_escape t) h = refl
  longer_ends (in_unicode high due v t) h = refl
  longer_ends (after_high high t) h = refl
  longer_ends (after_high_escape high t) h = refl
  longer_ends after_value h = absurd h
  longer_ends at_end h = absurd h
  longer_ends outside h = absurd h

  -- the text in front stays in front as long as the string goes on, and goes into its item when it ends
  abbrev front : Place → List ℕ
  front p = cond (inside p) s []

  abbrev Stays : Place → Type 0
  Stays q = (q ≡ outside → ⊥) → front q ≡ s ++ []

  stays : s ≡ s ++ []
  stays = rw append-nil

  named_stays : (high : Option ℕ) (v : ℕ) (t : List ℕ) → Stays (named high v t)
  named_stays none v t = cond_elim Stays (is_high v) (λ _ _. stays) (λ _. cond_elim Stays (is_low v) (λ _ h. absurd (h refl)) (λ _ _. stays))
  named_stays (some high) v t = cond_elim Stays (is_low v) (λ _ _. stays) (λ _ h. absurd (h refl))

  counted_stays : (high : Option ℕ) (due v : ℕ) (t : List ℕ) → Stays (counted high due v t)
  counted_stays high zero v t = named_stays high v t
  counted_stays high (suc due) v t = λ _. stays

  string_stays : (t u : List ℕ) (x y z : Bool) → (cond x after_value (cond y (after_escape t) (cond z outside (in_string u))) ≡ outside → ⊥)
      → texts (cond x (string (s ++ t) ∷ []) []) ++ front (cond x after_value (cond y (after_escape t) (cond z outside (in_string u))))
      ≡ s ++ texts (cond x (string t ∷ []) [])
  string_stays t u true y z h = simp append-nil
  string_stays t u false true z h = stays
  string_stays t u false false true h = absurd (h refl)
  string_stays t u false false false h = stays

  fate : (p : Place) (b : ℕ) → T (inside p) → (next p b ≡ outside → ⊥)
      → texts (ends (longer s p) b) ++ front (next p b) ≡ s ++ texts (ends p b)
  unfolding next ends
  fate at_start b h = absurd h
  fate after_bracket b h = absurd h
  fate after_comma b h = absurd h
  fate after_minus b h = absurd h
  fate (in_number g n) b h = absurd h
  fate (in_string t) b h = string_stays t (t ++ (b ∷ [])) (eqb b 0x22) (eqb b 0x5C) (ltb b 0x20)
  fate (after_escape t) b h =
      cond_elim Stays (eqb b 0x22 || eqb b 0x5C || eqb b 0x2F) (λ _ _. stays)
      (λ _. cond_elim Stays (eqb b 0x62) (λ _ _. stays)
      (λ _. cond_elim Stays (eqb b 0x66) (λ _ _. stays)
      (λ _. cond_elim Stays (eqb b 0x6E) (λ _ _. stays)
      (λ _. cond_elim Stays (eqb b 0x72) (λ _ _. stays)
      (λ _. cond_elim Stays (eqb b 0x74) (λ _ _. stays) (λ _. cond_elim Stays (eqb b 0x75) (λ _ _. stays) (λ _ h. absurd (h refl))))))))
  fate (in_unicode high due v t) b h =
      cond_elim Stays (is_hex b) (λ _. counted_stays high due (v * 16 + value_of_hex b) t) (λ _ h. absurd (h refl))
  fate (after_high high t) b h = cond_elim Stays (eqb b 0x5C) (λ _ _. stays) (λ _ h. absurd (h refl))
  fate (after_high_escape high t) b h = cond_elim Stays (eqb b 0x75) (λ _ _. stays) (λ _ h. absurd (h refl))
  fate after_value b h = absurd h
  fate at_end b h = absurd h
  fate outside b h = absurd h

  -- so the texts of what follows are those with no text in front, behind that text
  abbrev Follows : Place → List ℕ → List ℕ → Type 0
  Follows p bs t = (is_end (reached p bs) ≡ true) × (texts (items (longer s p) bs) ≡ t ++ texts (items p bs))

  follows_front : (p : Place) (bs : List ℕ) → is_end (reached (longer s p) bs) ≡ true → (T (inside p) → Follows p bs s)
      → Follows p bs (front p)
  follows_front at_start bs e ih = (e, refl)
  follows_front after_bracket bs e ih = (e, refl)
  follows_front after_comma bs e ih = (e, refl)
  follows_front after_minus bs e ih = (e, refl)
  follows_front (in_number g n) bs e ih = (e, refl)
  follows_front (in_string t) bs e ih = ih tt
  follows_front (after_escape t) bs e ih = ih tt
  follows_front (in_unicode high due v t) bs e ih = ih tt
  follows_front (after_high high t) bs e ih = ih tt
  follows_front (after_high_escape high t) bs e ih = ih tt
  follows_front after_value bs e ih = (e, refl)
  follows_front at_end bs e ih = (e, refl)
  follows_front outside bs e ih = (e, refl)

  follows : (bs : List ℕ) (p : Place) → T (inside p) → is_end (reached (longer s p) bs) ≡ true → Follows p bs s
  unfolding reached items
  follows [] p h e = absurd (false≢true (sym (longer_ends p h) ∙ e))
  follows (b ∷ bs) p h e =
      let q = next p b in
      let n = longer_next p b h in
      let k : is_end (reached (longer s q) bs) ≡ true = ap (λ r. is_end (reached r bs)) (sym n) ∙ e in
      let (f, g) = follows_front q bs k (λ i. follows bs q i k) in (
        f,
        texts_join (ends (longer s p) b) (items (next (longer s p) b) bs)
            ∙ ap (λ r. texts (ends (longer s p) b) ++ texts (items r bs)) n
            ∙ ap (λ l. texts (ends (longer s p) b) ++ l) g
            ∙ sym (append_assoc (texts (ends (longer s p) b)) (front q) (texts (items q bs)))
            ∙ ap (λ l. l ++ texts (items q bs)) (fate p b h (not_outside q bs f))
            ∙ append_assoc s (texts (ends p b)) (texts (items q bs))
            ∙ ap (λ l. s ++ l) (sym (texts_join (ends p b) (items q bs))),
      )

-- the text of a string so far, and what follows
pub held : (s bs : List ℕ) → is_end (reached (in_string s) bs) ≡ true
    → (is_end (reached (in_string []) bs) ≡ true) × (texts (items (in_string s) bs) ≡ s ++ texts (items (in_string []) bs))
held s bs e = rw append-nil at (follows s bs (in_string []) tt (rw append-nil e))

-- ---- one byte of a string

-- a byte that stands for itself
pub raw_byte : (b : ℕ) (bs : List ℕ) → (b ≡ 0x22 → ⊥) → (b ≡ 0x5C → ⊥) → is_end (reached (in_string []) (b ∷ bs)) ≡ true
    → (is_end (reached (in_string []) bs) ≡ true) × (texts (items (in_string []) (b ∷ bs)) ≡ b ∷ texts (items (in_string []) bs))
unfolding reached items
raw_byte b bs n m e =
    rw (ne_eqb b 0x22 n, ne_eqb b 0x5C m) (go (ltb b 0x20) (rw (ne_eqb b 0x22 n, ne_eqb b 0x5C m) at e))
  where
    go : (x : Bool) → is_end (reached (cond x outside (in_string (b ∷ []))) bs) ≡ true
        → (is_end (reached (in_string []) bs) ≡ true)
        × (texts (items (cond x outside (in_string (b ∷ []))) bs) ≡ b ∷ texts (items (in_string []) bs))
    go true k = absurd (not_outside outside bs k refl)
    go false k = held (b ∷ []) bs k

-- its quotation mark
pub quotation_mark : (bs : List ℕ)
    → (is_end (reached (in_string []) (0x22 ∷ bs)) ≡ is_end (reached after_value bs))
    × (texts (items (in_string []) (0x22 ∷ bs)) ≡ texts (items after_value bs))
unfolding reached items
quotation_mark bs = (refl, refl)

-- the backslash of an escape
pub backslash : (bs : List ℕ)
    → (is_end (reached (in_string []) (0x5C ∷ bs)) ≡ is_end (reached (after_escape []) bs))
    × (texts (items (in_string []) (0x5C ∷ bs)) ≡ texts (items (after_escape []) bs))
unfolding reached items
backslash bs = (refl, refl)

-- ---- one byte outside of strings

module _ (b : ℕ) (n : b ≡ 0x22 → ⊥) where
  abbrev pub Out : Place → Type 0
  Out p = inside p ≡ false

  out_begins : Out (begins b)
  out_begins = rw (ne_eqb b 0x22 n) (cond_elim Out (eqb b 0x2D) (λ _. refl) (λ _. cond_elim Out (is_digit1_9 b) (λ _. refl) (λ _. refl)))

  out_follows : Out (after b)
  out_follows =
      cond_elim Out (is_white_space b) (λ _. refl)
      (λ _. cond_elim Out (eqb b 0x2C) (λ _. refl) (λ _. cond_elim Out (eqb b 0x5D) (λ _. refl) (λ _. refl)))

  no_text : (x : Bool) (g : Sign) (m : ℕ) → texts (cond x [] (number g m ∷ [])) ≡ []
  no_text true g m = refl
  no_text false g m = refl

  -- no string begins or ends at another byte than a quotation mark
  pub out_byte : (p : Place) → Out p → Out (next p b) × (texts (ends p b) ≡ [])
  unfolding next ends
  out_byte at_start o = (cond_elim Out (is_white_space b) (λ _. refl) (λ _. cond_elim Out (eqb b 0x5B) (λ _. refl) (λ _. refl)), refl)
  out_byte after_bracket o = (cond_elim Out (is_white_space b) (λ _. refl) (λ _. cond_elim Out (eqb b 0x5D) (λ _. refl) (λ _. out_begins)), refl)
  out_byte after_comma o = (cond_elim Out (is_white_space b) (λ _. refl) (λ _. out_begins), refl)
  out_byte after_minus o = (cond_elim Out (is_digit1_9 b) (λ _. refl) (λ _. refl), refl)
  out_byte (in_number g m) o = (cond_elim Out (is_digit b) (λ _. refl) (λ _. out_follows), no_text (is_digit b) g m)
  out_byte (in_string t) o = absurd (true≢false o)
  out_byte (after_escape t) o = absurd (true≢false o)
  out_byte (in_unicode high due v t) o = absurd (true≢false o)
  out_byte (after_high high t) o = absurd (true≢false o)
  out_byte (after_high_escape high t) o = absurd (true≢false o)
  out_byte after_value o = (out_follows, refl)
  out_byte at_end o = (cond_elim Out (is_white_space b) (λ _. refl) (λ _. refl), refl)
  out_byte outside o = (refl, refl)

  pub out_on : (p : Place) (bs : List ℕ) → Out p → texts (items p (b ∷ bs)) ≡ texts (items (next p b) bs)
  unfolding items
  out_on p bs o = texts_join (ends p b) (items (next p b) bs) ∙ ap (λ l. l ++ texts (items (next p b) bs)) (out_byte p o).1

-- a quotation mark begins a string, or the list is none
mark_begins : (p : Place) → inside p ≡ false → ((next p 0x22 ≡ in_string []) ⊎ (next p 0x22 ≡ outside)) × (texts (ends p 0x22) ≡ [])
unfolding next ends
mark_begins at_start o = (inr refl, refl)
mark_begins after_bracket o = (inl refl, refl)
mark_begins after_comma o = (inl refl, refl)
mark_begins after_minus o = (inr refl, refl)
mark_begins (in_number g m) o = (inr refl, refl)
mark_begins (in_string t) o = absurd (true≢false o)
mark_begins (after_escape t) o = absurd (true≢false o)
mark_begins (in_unicode high due v t) o = absurd (true≢false o)
mark_begins (after_high high t) o = absurd (true≢false o)
mark_begins (after_high_escape high t) o = absurd (true≢false o)
mark_begins after_value o = (inr refl, refl)
mark_begins at_end o = (inr refl, refl)
mark_begins outside o = (inr refl, refl)

pub mark_on : (p : Place) (bs : List ℕ) → inside p ≡ false → is_end (reached p (0x22 ∷ bs)) ≡ true
    → (is_end (reached (in_string []) bs) ≡ true) × (texts (items p (0x22 ∷ bs)) ≡ texts (items (in_string []) bs))
unfolding reached items
mark_on p bs o e =
    let (w, t) = mark_begins p o in
    let s = texts_join (ends p 0x22) (items (next p 0x22) bs) ∙ ap (λ l. l ++ texts (items (next p 0x22) bs)) t in
    ⊎_elim
    (λ i. (sym (ap (λ q. is_end (reached q bs)) i) ∙ e, s ∙ ap (λ q. texts (items q bs)) i))
    (λ i. absurd (not_outside (next p 0x22) bs e i))
    w
