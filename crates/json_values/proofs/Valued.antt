-- A value, by its first byte.
use Rattle.std.specs.Prelude.{◌≡◌, ℕ, ◌+◌, ◌-◌, ◌<◌, ◌≤◌, List, [], length, get_or, drop, true, false, Option, Some, None}
use native.Mathlib.Omega.{arith}
use mathlib.Core.Path.{refl}
use lib.ListN.{drop_of_length-le}
use borrow.Author.Tests.{ne_eqb}
use Rattle.characters.proofs.Leads.{inside, under, over}
use Rattle.json_lists.specs.Form.{Sign, plus, minus, number, string, is_digit1_9, Place, after_comma, after_minus, in_number, in_string, next, ends}
use Rattle.json_lists.specs.InnerRuns.{Onward, Fails}
use Rattle.json_lists.proofs.Steps.{onward_then, passes_then, fails_then, ended_fails, next_outside_fails, at_byte, byte, number_ends}
use Rattle.json_escapes.specs.InnerEscapes.{StringAt}
use Rattle.json_values.specs.declared.inner.Digits.{Digits}
use Rattle.json_values.specs.declared.inner.Found.{Found}
use Rattle.json_values.specs.declared.inner.Value.TheVariants.{Retain, Delete, Insert}
use Rattle.json_values.specs.InnerValues.{DigitsAt, NumberAt, Begins, WholeNumber, ValueAt, ValueFrom, NoSpace, OtherByte}

module _ (b : ℕ) where
  first_digit : 0x31 ≤ b → b ≤ 0x39 → is_digit1_9 b ≡ true
  unfolding is_digit1_9
  first_digit l h = inside 0x31 0x39 b l h

  first_under : b < 0x31 → is_digit1_9 b ≡ false
  unfolding is_digit1_9
  first_under h = under 0x31 0x39 b h

  first_over : 0x39 < b → is_digit1_9 b ≡ false
  unfolding is_digit1_9
  first_over h = over 0x31 0x39 b h

minus_begins : (b : ℕ) → Begins after_minus minus b
unfolding next ends
minus_begins b = record { digit = λ e. (rw e, refl); other = λ e. rw e }

comma_begins : (b : ℕ) → OtherByte b → Begins after_comma plus b
unfolding next ends
comma_begins b o =
    record {
      digit = λ e. (rw (o.no_space, ne_eqb b 0x22 o.no_mark, ne_eqb b 0x2D o.no_minus, e), refl);
      other = λ e. rw (o.no_space, ne_eqb b 0x22 o.no_mark, ne_eqb b 0x2D o.no_minus, e);
    }

module _ (t : List ℕ) (at : ℕ) where
  -- the list ends before the number begins
  pub whole_cut : length t ≤ at → WholeNumber t at None
  whole_cut l = record { read = λ p s e f. rw (drop_of_length-le t l) (ended_fails p e) }

  module _ (h : at < length t) where
    other_fails : is_digit1_9 (get_or t at 0) ≡ false → WholeNumber t at None
    other_fails e = record { read = λ p s n f. rw (at_byte t at h) (next_outside_fails p (get_or t at 0) (drop (at + 1) t) ((f h).other e)) }

    pub whole_under : get_or t at 0 < 0x31 → WholeNumber t at None
    whole_under e = other_fails (first_under (get_or t at 0) e)

    pub whole_over : 0x39 < get_or t at 0 → WholeNumber t at None
    whole_over e = other_fails (first_over (get_or t at 0) e)

    module _ (l : 0x31 ≤ get_or t at 0) (k : get_or t at 0 ≤ 0x39) (x : Digits) (d : DigitsAt t at x) where
      begun : (p : Place) (s : Sign) → Begins p s (get_or t at 0) → Onward p (drop at t) (in_number s d.value) (drop x.to t)
      begun p s g =
          let (n, m) = g.digit (first_digit (get_or t at 0) l k) in
          onward_then (rw (at_byte t at h) (byte {b = get_or t at 0} (drop (at + 1) t) (omega arith) n m)) (d.onward s)

      pub number_cut : length t ≤ x.to → WholeNumber t at None
      number_cut e = record { read = λ p s n f. fails_then (begun p s (f h)) (rw (drop_of_length-le t e) (ended_fails (in_number s d.value) refl)) }

      pub number_whole : x.to < length t → WholeNumber t at (Some x)
      number_whole e = record {
        read = λ p s n f.
            record {
              value = d.value;
              capped = d.capped;
              above = d.above;
              below = d.below;
              passes = passes_then (begun p s (f h)) (rw (at_byte t x.to e) (number_ends s d.value (get_or t x.to 0) (drop (x.to + 1) t) (d.stops e)));
            };
      }

  -- ---- `negative`, `positive`

  pub minus_none : WholeNumber t at None → Fails after_minus (drop at t)
  minus_none w = w.read after_minus minus refl (λ _. minus_begins (get_or t at 0))

  pub minus_number : {x : Digits} → WholeNumber t at (Some x) → (f : Found) → f.value ≡ Delete x.value → f.to ≡ x.to → ValueAt after_minus t at f.value f.to
  minus_number {x} w f y z =
      let n : NumberAt after_minus minus t at x.value x.to = w.read after_minus minus refl (λ _. minus_begins (get_or t at 0)) in
      rw (y, z) (record { item = number minus n.value; means = record { value = n.value; capped = n.capped; is = refl }; above = n.above; below = n.below; passes = n.passes })

  module _ (o : OtherByte (get_or t at 0)) where
    pub plus_none : WholeNumber t at None → Fails after_comma (drop at t)
    plus_none w = w.read after_comma plus refl (λ _. comma_begins (get_or t at 0) o)

    pub plus_number : {x : Digits} → WholeNumber t at (Some x) → (f : Found) → f.value ≡ Retain x.value → f.to ≡ x.to → ValueAt after_comma t at f.value f.to
    plus_number {x} w f y z =
        let n : NumberAt after_comma plus t at x.value x.to = w.read after_comma plus refl (λ _. comma_begins (get_or t at 0) o) in
        rw (y, z) (record { item = number plus n.value; means = record { value = n.value; capped = n.capped; is = refl }; above = n.above; below = n.below; passes = n.passes })

  -- ---- a string

  module _ (h : at < length t) (e : get_or t at 0 ≡ 0x22) where
    past_mark : Onward after_comma (drop at t) (in_string []) (drop (at + 1) t)
    unfolding next ends
    past_mark = rw (at_byte t at h, e) (byte {b = 0x22} (drop (at + 1) t) (omega arith) refl refl)

    pub quoted_none : Fails (in_string []) (drop (at + 1) t) → Fails after_comma (drop at t)
    quoted_none f = fails_then past_mark f

    pub quoted_text : {bytes chars to : ℕ} → StringAt t (at + 1) bytes chars to → (f : Found) → f.value ≡ Insert bytes chars → f.to ≡ to → ValueAt after_comma t at f.value f.to
    quoted_text x f y z =
        rw (y, z)
        (record {
          item = string x.text;
          means = record { text = x.text; well = x.well; size = x.size; num = x.num; is = refl };
          above = omega (arith, x.above);
          below = x.below;
          passes = passes_then past_mark x.passes;
        })

  -- ---- by the first byte

  pub value_end : length t ≤ at → Fails after_comma (drop at t)
  value_end l = rw (drop_of_length-le t l) (ended_fails after_comma refl)

  pub other_byte : at < length t → NoSpace t at → (get_or t at 0 ≡ 0x22 → ⊥) → (get_or t at 0 ≡ 0x2D → ⊥) → OtherByte (get_or t at 0)
  other_byte h n x y = record { no_space = n.none h; no_mark = x; no_minus = y }

  module _ (h : at < length t) (e : get_or t at 0 ≡ 0x2D) where
    past_minus : Onward after_comma (drop at t) after_minus (drop (at + 1) t)
    unfolding next ends
    past_minus = rw (at_byte t at h, e) (byte {b = 0x2D} (drop (at + 1) t) (omega arith) refl refl)

    pub value_minus : (r : Option Found) → ValueFrom after_minus t (at + 1) r → ValueFrom after_comma t at r
    value_minus None x = fails_then past_minus x
    value_minus (Some f) x = record { item = x.item; means = x.means; above = omega (arith, x.above); below = x.below; passes = passes_then past_minus x.passes }
