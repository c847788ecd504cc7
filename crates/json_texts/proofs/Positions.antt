-- The texts that are still to be copied, from one position of a list to another.
use Rattle.std.specs.Prelude.{◌≡◌, ℕ, zero, suc, ◌+◌, ◌<◌, ◌≤◌, true, T, leb, List, [], ◌∷◌, ◌++◌, length, get_or, drop, Some, None}
use native.Mathlib.Omega.{arith}
use mathlib.Core.Path.{refl, sym, ap, ◌∙◌}
use mathlib.Core.Logic.{⊎_elim}
use mathlib.Core.Bool.{false≢true}
use lib.ListN.{drop_of_length-le}
use Rattle.buffers.specs.Lists.{all_of}
use Rattle.buffers.proofs.Tests.{both, known, le_and}
use Rattle.characters.specs.Form.{within, lead_from, well_formed_from, is_well_formed, Lead}
use Rattle.characters.proofs.Leads.{le_or_lt, within_bounds, sane, sane_lead}
use Rattle.characters.proofs.Chars.{split}
use Rattle.json_lists.specs.Form.{Place, in_string, after_escape, after_value, is_end, reached, items}
use Rattle.json_lists.specs.Grammar.{is_raw}
use Rattle.json_lists.proofs.Steps.{at_byte}
use Rattle.json_strings.specs.InnerStrings.{is_plain}
use Rattle.json_texts.specs.InnerTexts.{texts, ahead}
use Rattle.json_texts.proofs.Texts.{raw_byte, quotation_mark, backslash}

-- ---- well-formed text

-- a byte below 80 begins a character of well-formed text
pub starts : (t : List ℕ) (i : ℕ) (x : Lead) → T (sane x) → well_formed_from t x ≡ true → i < length t → get_or t i 0 < 0x80
    → is_well_formed (drop i t) ≡ true
starts [] i x s e h l = absurd (omega arith)
starts (b ∷ t) i None s e h l = absurd (false≢true e)
starts (b ∷ t) zero (Some (zero, lo, hi)) s e h l = e
starts (b ∷ t) (suc i) (Some (zero, lo, hi)) s e h l = starts t i (lead_from b) (sane_lead b) e (omega arith) l
starts (b ∷ t) zero (Some (suc n, lo, hi)) s e h l =
    let (k, _) = within_bounds lo hi b (known (split (within lo hi b) (well_formed_from t (Some (n, 0x80, 0xBF))) e).0) in
    let (m, _) = (le_and 0x80 lo (leb hi 0xBF)).0 s in
    absurd (omega arith)
starts (b ∷ t) (suc i) (Some (suc n, lo, hi)) s e h l =
    starts t i (Some (n, 0x80, 0xBF)) tt (split (within lo hi b) (well_formed_from t (Some (n, 0x80, 0xBF))) e).1 (omega arith) l

-- ---- positions of the list

-- text that stands in the list from one position to another
pub record Part (q s : Place) (list : List ℕ) (i k : ℕ) (xs : List ℕ) : Type 0 where
  pub splits : ahead q list i ≡ xs ++ ahead s list k
  pub ends : is_end (reached s (drop k list)) ≡ true
  pub above : i ≤ k
  pub below : k ≤ length list

-- bytes are left where a string goes on
pub in_string_no_end : (list : List ℕ) (i : ℕ) → is_end (reached (in_string []) (drop i list)) ≡ true → i < length list
unfolding reached
in_string_no_end list i e =
    ⊎_elim
    (λ h. absurd (false≢true (sym (ap (λ bs. is_end (reached (in_string []) bs)) (drop_of_length-le list h)) ∙ e)))
    (λ h. h)
    (le_or_lt (length list) i)

module _ (list : List ℕ) (i : ℕ) (e : is_end (reached (in_string []) (drop i list)) ≡ true) where
  -- a byte that stands for itself
  pub raw_at : (get_or list i 0 ≡ 0x22 → ⊥) → (get_or list i 0 ≡ 0x5C → ⊥)
      → (is_end (reached (in_string []) (drop (i + 1) list)) ≡ true)
      × (ahead (in_string []) list i ≡ get_or list i 0 ∷ ahead (in_string []) list (i + 1))
  unfolding ahead
  raw_at n m =
      let z = at_byte list i (in_string_no_end list i e) in
      rw z (raw_byte (get_or list i 0) (drop (i + 1) list) n m (rw z at e))

  -- its quotation mark, and a backslash
  pub mark_at : get_or list i 0 ≡ 0x22 → Part (in_string []) after_value list i (i + 1) []
  unfolding ahead
  mark_at b =
      let h = in_string_no_end list i e in
      let z : drop i list ≡ 0x22 ∷ drop (i + 1) list = at_byte list i h ∙ ap (λ c. c ∷ drop (i + 1) list) b in
      let (f, g) = quotation_mark (drop (i + 1) list) in
      record { splits = rw z g; ends = sym f ∙ (rw z at e); above = omega arith; below = omega arith }

  pub slash_at : get_or list i 0 ≡ 0x5C → Part (in_string []) (after_escape []) list i (i + 1) []
  unfolding ahead
  slash_at b =
      let h = in_string_no_end list i e in
      let z : drop i list ≡ 0x5C ∷ drop (i + 1) list = at_byte list i h ∙ ap (λ c. c ∷ drop (i + 1) list) b in
      let (f, g) = backslash (drop (i + 1) list) in
      record { splits = rw z g; ends = sym f ∙ (rw z at e); above = omega arith; below = omega arith }

-- plain bytes
plain_raw : (b : ℕ) → T (is_plain b) → (b ≡ 0x22 → ⊥) × (b ≡ 0x5C → ⊥)
unfolding is_plain is_raw
plain_raw b h = (λ e. rw e at h, λ e. rw e at h)

pub plains : (xs bs : List ℕ) → T (all_of is_plain xs) → is_end (reached (in_string []) (xs ++ bs)) ≡ true
    → (is_end (reached (in_string []) bs) ≡ true) × (texts (items (in_string []) (xs ++ bs)) ≡ xs ++ texts (items (in_string []) bs))
plains [] bs h e = (e, refl)
plains (b ∷ xs) bs h e =
    let (p, k) = (both (is_plain b) (all_of is_plain xs)).0 h in
    let (n, m) = plain_raw b p in
    let (f, g) = raw_byte b (xs ++ bs) n m e in
    let (f₁, g₁) = plains xs bs k f in
    (f₁, g ∙ ap (λ l. b ∷ l) g₁)
