-- How a list is read on from a position: one law for each thing that code does there.
use Prim.Native.Nat.{ℕ, ◌+◌, ◌*◌, ◌-◌, ◌<◌, ◌≤◌}
use native.Mathlib.Numerals.{add-one}
use native.Mathlib.Omega.{arith}
use mathlib.Core.Path.{◌≡◌, refl, sym, ap, ap₂, ◌∙◌}
use mathlib.Core.Bool.{Bool, true, false, not, and-false, ◌&&◌}
use mathlib.Core.List.{List, [], ◌∷◌, ◌++◌, append_assoc, append-nil}
use mathlib.Core.Option.{Option}
use lib.Dec.{T, ltb, eqb}
use lib.ListN.{length, take, drop, get_or, take-append-drop}
use lib.Seq.{drop-cons, drop-drop}
use borrow.Author.Tests.{not-true, ne_eqb}
use Rattle.buffers.specs.Lists.{all_of}
use Rattle.buffers.proofs.Tests.{holds, both}
use Rattle.characters.specs.Form.{is_well_formed}
use Rattle.characters.proofs.Leads.{within_bounds}
use Rattle.characters.proofs.Chars.{well_append}
use Rattle.json_lists.specs.Form.{Sign, plus, minus, Item, number, string, is_white_space, is_digit, is_digit1_9, value_of_digit, is_hex, value_of_hex}
use Rattle.json_lists.specs.Form.{Place, at_start, after_bracket, after_comma, after_minus, in_number, in_string, after_escape}
use Rattle.json_lists.specs.Form.{in_unicode, after_high, after_high_escape, after_value, at_end, outside, is_end}
use Rattle.json_lists.specs.Form.{named, counted, next, ends, reached, items}
use Rattle.json_lists.specs.Grammar.{is_raw}
use Rattle.json_lists.specs.InnerRuns.{Run, Plain, Onward, Passes, Fails}
use Rattle.json_lists.proofs.Reading.{outside_stays}
use Rattle.json_lists.proofs.Ascii.{ascii_on, low_space, low_hex}

-- ---- one step behind another

pub onward_none : (p : Place) (bs : List ℕ) → Onward p bs p bs
onward_none p bs = record { to = refl; has = refl; well = refl }

pub onward_then : {p q r : Place} {bs cs ds : List ℕ} → Onward p bs q cs → Onward q cs r ds → Onward p bs r ds
onward_then f g = record { to = f.to ∙ g.to; has = f.has ∙ g.has; well = f.well ∙ g.well }

pub passes_then : {x : Item} {p q r : Place} {bs cs ds : List ℕ} → Onward p bs q cs → Passes x q cs r ds → Passes x p bs r ds
passes_then f g = record { to = f.to ∙ g.to; has = f.has ∙ g.has; well = f.well ∙ g.well }

pub passes_on : {x : Item} {p q r : Place} {bs cs ds : List ℕ} → Passes x p bs q cs → Onward q cs r ds → Passes x p bs r ds
passes_on {x} f g = record { to = f.to ∙ g.to; has = f.has ∙ ap (λ l. x ∷ l) g.has; well = f.well ∙ g.well }

pub fails_then : {p q : Place} {bs cs : List ℕ} → Onward p bs q cs → Fails q cs → Fails p bs
fails_then f g = ap₂ (λ w r. w && is_end r) f.well f.to ∙ g

-- ---- where no list of the form goes on

-- all bytes are read, and the list has not ended
off_end : (p : Place) (bs : List ℕ) → is_end (reached p bs) ≡ false → Fails p bs
off_end p bs e = rw e (and-false (is_well_formed bs))

-- bytes outside the form stay outside
pub outside_fails : (bs : List ℕ) → Fails outside bs
outside_fails bs = off_end outside bs (ap is_end (outside_stays bs))

-- the bytes end before the list does
pub ended_fails : (p : Place) → is_end p ≡ false → Fails p []
unfolding reached
ended_fails p e = off_end p [] e

-- what is left is no UTF-8
pub ill_fails : (p : Place) (bs : List ℕ) → is_well_formed bs ≡ false → Fails p bs
ill_fails p bs e = ap (λ w. w && is_end (reached p bs)) e

-- the next byte leads outside the form
pub next_outside_fails : (p : Place) (b : ℕ) (bs : List ℕ) → next p b ≡ outside → Fails p (b ∷ bs)
unfolding reached
next_outside_fails p b bs e = off_end p (b ∷ bs) (ap is_end (ap (λ q. reached q bs) e ∙ outside_stays bs))

-- ---- one byte

-- the bytes from a position on are the byte there and those from the next position on
pub at_byte : (t : List ℕ) (at : ℕ) → at < length t → drop at t ≡ get_or t at 0 ∷ drop (at + 1) t
at_byte t at h = drop-cons t at 0 h ∙ rw add-one

pub byte : {p q : Place} {b : ℕ} (bs : List ℕ) → b < 0x80 → next p b ≡ q → ends p b ≡ [] → Onward p (b ∷ bs) q bs
unfolding reached items
byte {b = b} bs l n m = record { to = ap (λ x. reached x bs) n; has = ap₂ (λ l x. l ++ items x bs) m n; well = ascii_on b bs l }

-- ---- white space

-- a place between values, where white space changes nothing
abbrev pub between : Place → Bool
between at_start = true
between after_bracket = true
between after_comma = true
between after_minus = false
between (in_number s n) = false
between (in_string t) = false
between (after_escape t) = false
between (in_unicode high due v t) = false
between (after_high high t) = false
between (after_high_escape high t) = false
between after_value = true
between at_end = true
between outside = true

pub space_stays : (p : Place) (b : ℕ) → T (between p) → is_white_space b ≡ true → (next p b ≡ p) × (ends p b ≡ [])
unfolding next ends
space_stays at_start b h e = (rw e, refl)
space_stays after_bracket b h e = (rw e, refl)
space_stays after_comma b h e = (rw e, refl)
space_stays after_minus b h e = absurd h
space_stays (in_number s n) b h e = absurd h
space_stays (in_string t) b h e = absurd h
space_stays (after_escape t) b h e = absurd h
space_stays (in_unicode high due v t) b h e = absurd h
space_stays (after_high high t) b h e = absurd h
space_stays (after_high_escape high t) b h e = absurd h
space_stays after_value b h e = (rw e, refl)
space_stays at_end b h e = (rw e, refl)
space_stays outside b h e = (refl, refl)

-- a run of white space
pub spaces : (p : Place) (xs bs : List ℕ) → T (between p) → T (all_of is_white_space xs) → Onward p (xs ++ bs) p bs
spaces p [] bs h s = onward_none p bs
spaces p (b ∷ xs) bs h s =
    let (e, r) = (both (is_white_space b) (all_of is_white_space xs)).0 s in
    let k = holds (is_white_space b) e in
    let (n, m) = space_stays p b h k in
    onward_then (byte {b = b} (xs ++ bs) (low_space b k) n m) (spaces p xs bs h r)

-- ---- numbers

-- what a first digit is not
record Unlike (b : ℕ) : Type 0 where
  space : is_white_space b ≡ false
  quote : eqb b 0x22 ≡ false
  dash : eqb b 0x2D ≡ false
  bracket : eqb b 0x5D ≡ false

module _ (b : ℕ) (h : T (is_digit1_9 b)) where
  unlike : Unlike b
  unfolding is_digit1_9 is_white_space
  unlike =
      let (l, k) = within_bounds _ _ b h in
      record {
        space = rw (ne_eqb b 0x20 (λ e. omega arith), ne_eqb b 0x09 (λ e. omega arith), ne_eqb b 0x0A (λ e. omega arith), ne_eqb b 0x0D (λ e. omega arith));
        quote = ne_eqb b 0x22 (λ e. omega arith);
        dash = ne_eqb b 0x2D (λ e. omega arith);
        bracket = ne_eqb b 0x5D (λ e. omega arith);
      }

  -- where a number may begin
  pub bracket_digit : next after_bracket b ≡ in_number plus (value_of_digit b)
  unfolding next
  bracket_digit = let u = unlike in rw (u.space, u.bracket, u.quote, u.dash, holds (is_digit1_9 b) h)

  pub comma_digit : next after_comma b ≡ in_number plus (value_of_digit b)
  unfolding next
  comma_digit = let u = unlike in rw (u.space, u.quote, u.dash, holds (is_digit1_9 b) h)

  pub minus_digit : next after_minus b ≡ in_number minus (value_of_digit b)
  unfolding next
  minus_digit = rw (holds (is_digit1_9 b) h)

pub next_digit : (s : Sign) (n b : ℕ) → is_digit b ≡ true
    → (next (in_number s n) b ≡ in_number s (n * 10 + value_of_digit b)) × (ends (in_number s n) b ≡ [])
unfolding next ends
next_digit s n b e = (rw e, rw e)

-- a run of digits
-- a number ends before the first byte that is no digit
pub number_ends : (s : Sign) (n b : ℕ) (bs : List ℕ) → is_digit b ≡ false → Passes (number s n) (in_number s n) (b ∷ bs) after_value (b ∷ bs)
unfolding reached items
number_ends s n b bs e = record { to = rw e; has = rw e; well = refl }

-- ---- strings

pub next_raw : (t : List ℕ) (b : ℕ) → T (is_raw b) → (next (in_string t) b ≡ in_string (t ++ (b ∷ []))) × (ends (in_string t) b ≡ [])
unfolding next ends is_raw
next_raw t b r =
    let (x, r') = (both (not (eqb b 0x22)) _).0 r in
    let (y, z) = (both (not (eqb b 0x5C)) (not (ltb b 0x20))).0 r' in
    let x' = not-true (eqb b 0x22) (holds _ x) in
    (rw (x', not-true (eqb b 0x5C) (holds _ y), not-true (ltb b 0x20) (holds _ z)), rw x')

raws_place : (t xs bs : List ℕ) → T (all_of is_raw xs) → reached (in_string t) (xs ++ bs) ≡ reached (in_string (t ++ xs)) bs
unfolding reached
raws_place t [] bs h = rw append-nil
raws_place t (b ∷ xs) bs h =
    let (r, k) = (both (is_raw b) (all_of is_raw xs)).0 h in
    ap (λ x. reached x (xs ++ bs)) (next_raw t b r).0 ∙ raws_place (t ++ (b ∷ [])) xs bs k ∙ rw append_assoc

raws_items : (t xs bs : List ℕ) → T (all_of is_raw xs) → items (in_string t) (xs ++ bs) ≡ items (in_string (t ++ xs)) bs
unfolding items
raws_items t [] bs h = rw append-nil
raws_items t (b ∷ xs) bs h =
    let (r, k) = (both (is_raw b) (all_of is_raw xs)).0 h in
    let (n, m) = next_raw t b r in
    ap₂ (λ l x. l ++ items x (xs ++ bs)) m n ∙ raws_items (t ++ (b ∷ [])) xs bs k ∙ rw append_assoc

-- whole characters that need no escape are added to the string as they are
pub raws : (t xs bs : List ℕ) → T (all_of is_raw xs) → T (is_well_formed xs) → Onward (in_string t) (xs ++ bs) (in_string (t ++ xs)) bs
raws t xs bs h w = record { to = raws_place t xs bs h; has = raws_items t xs bs h; well = well_append xs bs (holds (is_well_formed xs) w) }

-- a string ends at its quotation mark
pub string_ends : (t bs : List ℕ) → Passes (string t) (in_string t) (0x22 ∷ bs) after_value bs
unfolding reached items
string_ends t bs = record { to = refl; has = refl; well = ascii_on 0x22 bs (omega arith) }

pub next_hex : (high : Option ℕ) (due v : ℕ) (t : List ℕ) (b : ℕ) → is_hex b ≡ true → next (in_unicode high due v t) b ≡ counted high due (v * 16 + value_of_hex b) t
unfolding next
next_hex high due v t b e = rw e

-- one digit more of an escape
pub hex_step : (high : Option ℕ) (due v : ℕ) (t : List ℕ) (b : ℕ) (bs : List ℕ) → T (is_hex b)
    → Onward (in_unicode high due v t) (b ∷ bs) (counted high due (v * 16 + value_of_hex b) t) bs
unfolding ends
hex_step high due v t b bs h = let e = holds (is_hex b) h in byte {b = b} bs (low_hex b e) (next_hex high due v t b e) refl

-- the four hexadecimal digits of an escape
pub four_digits : (high : Option ℕ) (t : List ℕ) (a b c d : ℕ) (bs : List ℕ) → T (all_of is_hex (a ∷ b ∷ c ∷ d ∷ []))
    → Onward (in_unicode high 3 0 t) (a ∷ b ∷ c ∷ d ∷ bs) (named high (((value_of_hex a * 16 + value_of_hex b) * 16 + value_of_hex c) * 16 + value_of_hex d) t) bs
four_digits high t a b c d bs h =
    let (x, h₁) = (both (is_hex a) _).0 h in
    let (y, h₂) = (both (is_hex b) _).0 h₁ in
    let (z, h₃) = (both (is_hex c) _).0 h₂ in
    let (w, _) = (both (is_hex d) true).0 h₃ in
    let v : 0 * 16 + value_of_hex a ≡ value_of_hex a = omega arith in
    rw v at
    (onward_then (hex_step high 3 0 t a (b ∷ c ∷ d ∷ bs) x)
    (onward_then (hex_step high 2 _ t b (c ∷ d ∷ bs) y)
    (onward_then (hex_step high 1 _ t c (d ∷ bs) z)
    (hex_step high 0 _ t d bs w))))

-- ---- runs, by position

-- what stands from one position to another, and what stands behind it
between_positions : (t : List ℕ) (at to : ℕ) → at ≤ to → drop at t ≡ take (to - at) (drop at t) ++ drop to t
between_positions t at to h =
    let z : at + (to - at) ≡ to = omega arith in
    sym (take-append-drop (to - at) (drop at t)) ∙ ap (λ l. take (to - at) (drop at t) ++ l) (drop-drop (to - at) at t ∙ ap (λ i. drop i t) z)

along : (t : List ℕ) (at to : ℕ) {p q : Place} → at ≤ to → Onward p (take (to - at) (drop at t) ++ drop to t) q (drop to t) → Onward p (drop at t) q (drop to t)
along t at to {p} h o =
    let e = between_positions t at to h in
    record { to = ap (reached p) e ∙ o.to; has = ap (items p) e ∙ o.has; well = ap is_well_formed e ∙ o.well }

module _ {t : List ℕ} {at to : ℕ} where
  pub run_spaces : {p : Place} → Run is_white_space t at to → T (between p) → Onward p (drop at t) p (drop to t)
  run_spaces {p} r h = along t at to r.above (spaces p (take (to - at) (drop at t)) (drop to t) h r.all)

  pub run_plain : {chars : ℕ} → Plain t at to chars → (s : List ℕ)
      → Onward (in_string s) (drop at t) (in_string (s ++ take (to - at) (drop at t))) (drop to t)
  run_plain r s = along t at to r.above (raws s (take (to - at) (drop at t)) (drop to t) r.raw r.well)
