-- A string, scanned piece by piece.
use Rattle.std.specs.Prelude.{◌≡◌, ℕ, ◌+◌, ◌-◌, ◌<◌, ◌≤◌, true, List, [], ◌++◌, length, get_or, take, drop, None}
use native.Mathlib.Omega.{arith}
use mathlib.Core.Path.{refl, ◌∙◌}
use mathlib.Core.Logic.{⊎_elim}
use lib.ListN.{drop_of_length-le, length-append, length-take, length-drop}
use borrow.Author.Tests.{ne_eqb, le-ltb, lt-ltb}
use Rattle.buffers.proofs.Tests.{known, holds}
use Rattle.characters.specs.Form.{is_well_formed}
use Rattle.characters.specs.Chars.{number_of_chars}
use Rattle.characters.specs.Scalar.{encode_scalar}
use Rattle.characters.proofs.Chars.{num_append, num_le, well_append}
use Rattle.characters.proofs.Leads.{le_or_lt}
use Rattle.json_lists.specs.Form.{in_string, after_escape, next, ends}
use Rattle.json_lists.specs.Grammar.{is_raw}
use Rattle.json_lists.specs.InnerRuns.{Plain, width, Onward, Fails}
use Rattle.json_lists.proofs.Scalars.{encode_text, encode_chars, encode_length}
use Rattle.json_lists.proofs.Steps.{onward_none, onward_then, passes_then, fails_then, ended_fails, ill_fails, next_outside_fails, at_byte, byte, run_plain, string_ends}
use Rattle.json_escapes.specs.declared.inner.Escaped.{Escaped}
use Rattle.json_escapes.specs.InnerEscapes.{Names, EscapeAt, StringAt}

-- the string's text from `at` to i, of so many bytes and characters
pub record Text (t : List ℕ) (at i bytes chars : ℕ) : Type 0 where
  pub text : List ℕ
  pub well : is_well_formed text ≡ true
  pub size : bytes ≡ length text
  pub num : chars ≡ number_of_chars text
  pub above : at ≤ i
  pub below : i ≤ length t
  pub few : bytes ≤ i - at
  pub fewer : chars ≤ bytes
  pub onward : Onward (in_string []) (drop at t) (in_string text) (drop i t)

module _ (t : List ℕ) (at : ℕ) where
  pub text_none : at ≤ length t → Text t at at 0 0
  text_none h = record {
    text = [];
    well = refl;
    size = refl;
    num = refl;
    above = omega arith;
    below = h;
    few = omega arith;
    fewer = omega arith;
    onward = onward_none (in_string []) (drop at t);
  }

  module _ (i bytes chars : ℕ) (x : Text t at i bytes chars) where
    -- the list ends in the string
    pub text_ends : length t ≤ i → Fails (in_string []) (drop at t)
    text_ends h = fails_then x.onward (rw (drop_of_length-le t h) (ended_fails (in_string x.text) refl))

    module _ (end more : ℕ) (p : Plain t i end more) where
      abbrev run : List ℕ
      run = take (end - i) (drop i t)

      run_size : length run ≡ end - i
      run_size = let h = p.above in let k = p.below in simp (length-take, length-drop) (omega arith)

      -- the plain characters are passed
      text_plain : Text t at end (bytes + (end - i)) (chars + more)
      text_plain = record {
        text = x.text ++ run;
        well = well_append x.text run x.well ∙ holds (is_well_formed run) p.well;
        size = omega (arith, x.size, length-append x.text run, run_size);
        num = omega (arith, x.num, p.num, num_append x.text run);
        above = omega (arith, x.above, p.above);
        below = p.below;
        few = omega (arith, x.few, x.above, p.above);
        fewer = omega (arith, x.fewer, p.num, num_le run, run_size);
        onward = onward_then x.onward (run_plain p x.text);
      }

      pub plain_ends : length t ≤ end → Fails (in_string []) (drop at t)
      plain_ends h = fails_then text_plain.onward (rw (drop_of_length-le t h) (ended_fails (in_string text_plain.text) refl))

      module _ (h : end < length t) where
        pub string_read : get_or t end 0 ≡ 0x22 → StringAt t at (bytes + (end - i)) (chars + more) (end + 1)
        string_read e =
            let y = text_plain in
            record {
              text = y.text;
              well = known y.well;
              size = y.size;
              num = y.num;
              above = omega (arith, y.above);
              below = omega arith;
              passes = passes_then y.onward (rw (at_byte t end h, e) (string_ends y.text (drop (end + 1) t)));
            }

        -- a byte that needs an escape, or that begins no character
        pub string_bad : (get_or t end 0 ≡ 0x22 → ⊥) → (get_or t end 0 ≡ 0x5C → ⊥) → Fails (in_string []) (drop at t)
        unfolding next is_raw
        string_bad n m =
            let b = get_or t end 0 in
            fails_then text_plain.onward
            (⊎_elim
            (λ l. ill_fails (in_string text_plain.text) (drop end t) (p.stops h (rw (ne_eqb b 0x22 n, ne_eqb b 0x5C m, le-ltb b 0x20 l))))
            (λ l. rw (at_byte t end h) (next_outside_fails (in_string text_plain.text) b (drop (end + 1) t) (rw (ne_eqb b 0x22 n, ne_eqb b 0x5C m, lt-ltb b 0x20 l))))
            (le_or_lt 0x20 b))

        module _ (e : get_or t end 0 ≡ 0x5C) where
          -- the backslash is passed
          past : Onward (in_string []) (drop at t) (after_escape text_plain.text) (drop (end + 1) t)
          unfolding next ends
          past = onward_then text_plain.onward (rw (at_byte t end h, e) (byte {b = 0x5C} (drop (end + 1) t) (omega arith) refl refl))

          pub escape_bad : EscapeAt after_escape t (end + 1) None → Fails (in_string []) (drop at t)
          escape_bad z = fails_then past (z text_plain.text)

          module _ (r : Escaped) (z : Names after_escape t (end + 1) r) where
            pub text_escape : (w : ℕ) → w ≡ width r.code → Text t at r.to (bytes + (end - i) + w) (chars + more + 1)
            text_escape w f =
                let y = text_plain in
                let c = encode_scalar r.code in
                let s = z.scalar in
                let lc = encode_length r.code in
                let nc = encode_chars r.code s in
                let wide = z.wide in
                record {
                  text = y.text ++ c;
                  well = well_append y.text c y.well ∙ holds (is_well_formed c) (encode_text r.code s);
                  size = omega (arith, y.size, length-append y.text c);
                  num = omega (arith, y.num, num_append y.text c);
                  above = omega (arith, y.above);
                  below = z.there;
                  few = omega (arith, y.few, y.above);
                  fewer = omega (arith, y.fewer, num_le c);
                  onward = onward_then past (z.onward text_plain.text);
                }

            pub escape_less : length t - r.to < length t - i
            escape_less = omega (arith, z.wide, z.there, p.above)
