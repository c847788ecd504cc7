-- What an escape names, case by case.
use Rattle.std.specs.Prelude.{◌≡◌, ℕ, ◌+◌, ◌-◌, ◌*◌, ◌<◌, ◌≤◌, Bool, true, false, cond, ◌||◌, eqb, ltb, List, [], ◌∷◌, ◌++◌, length, get_or, take, drop, Option, Some, None}
use Rattle.std.proofs.lemmas.Bool.Decides.{Decides-eqb}
use Rattle.std.proofs.lemmas.Option.{none-some}
use Rattle.std.proofs.lemmas.Slice.Eq.{starts_is}
use Rattle.std.specs.List.{starts_with}
use native.Mathlib.Omega.{arith}
use mathlib.Core.Path.{refl, sym, ap, ap₂, ◌∙◌}
use mathlib.Core.Bool.{true≢false}
use mathlib.Core.Logic.{⊎_elim}
use mathlib.Core.Option.{none, some}
use lib.ListN.{drop_of_length-le, length-drop}
use lib.Seq.{drop-drop, take_all}
use borrow.Author.Tests.{ne_eqb, eqb-true, lt-ltb, le-ltb}
use Rattle.buffers.proofs.Tests.{known}
use Rattle.characters.proofs.Codes.{encode_1, scalar_low}
use Rattle.characters.proofs.Leads.{le_or_lt, inside, under, over}
use Rattle.json_lists.specs.Form.{is_high, is_low, paired, Place, in_string, after_escape, in_unicode, after_high, after_high_escape, outside, next, ends}
use Rattle.json_lists.specs.InnerRuns.{width, Onward, Fails}
use Rattle.json_lists.proofs.Ascii.{low_self}
use Rattle.json_lists.proofs.Scalars.{named_scalar, paired_scalar}
use Rattle.json_lists.proofs.Steps.{onward_then, fails_then, outside_fails, ended_fails, next_outside_fails, at_byte, byte}
use Rattle.json_escapes.specs.declared.inner.Escaped.{Escaped}
use Rattle.json_escapes.specs.InnerEscapes.{Hex4, Hex4At, after_u, short_or_none, Names, EscapeAt}

-- ---- surrogates and widths

module _ (v : ℕ) where
  is_high_half : 0xD800 ≤ v → v ≤ 0xDBFF → is_high v ≡ true
  unfolding is_high
  is_high_half l h = inside 0xD800 0xDBFF v l h

  high_under : v < 0xD800 → is_high v ≡ false
  unfolding is_high
  high_under h = under 0xD800 0xDBFF v h

  high_over : 0xDBFF < v → is_high v ≡ false
  unfolding is_high
  high_over h = over 0xD800 0xDBFF v h

  is_low_half : 0xDC00 ≤ v → v ≤ 0xDFFF → is_low v ≡ true
  unfolding is_low
  is_low_half l h = inside 0xDC00 0xDFFF v l h

  low_under : v < 0xDC00 → is_low v ≡ false
  unfolding is_low
  low_under h = under 0xDC00 0xDFFF v h

  low_over : 0xDFFF < v → is_low v ≡ false
  unfolding is_low
  low_over h = over 0xDC00 0xDFFF v h

  pub width_1 : v < 0x80 → (1 ≡ width v) × (1 ≤ 4)
  unfolding width
  width_1 h = (rw (lt-ltb v 0x80 h), omega arith)

  pub width_2 : 0x80 ≤ v → v < 0x800 → (2 ≡ width v) × (2 ≤ 4)
  unfolding width
  width_2 l h = (rw (le-ltb v 0x80 l, lt-ltb v 0x800 h), omega arith)

  pub width_3 : 0x800 ≤ v → v < 0x10000 → (3 ≡ width v) × (3 ≤ 4)
  unfolding width
  width_3 l h = (rw (le-ltb v 0x80 (omega arith), le-ltb v 0x800 l, lt-ltb v 0x10000 h), omega arith)

  pub width_4 : 0x10000 ≤ v → (4 ≡ width v) × (4 ≤ 4)
  unfolding width
  width_4 l = (rw (le-ltb v 0x80 (omega arith), le-ltb v 0x800 (omega arith), le-ltb v 0x10000 l), omega arith)

  width_most : width v ≤ 4
  unfolding width
  width_most = go (ltb v 0x80) (ltb v 0x800) (ltb v 0x10000)
    where
      go : (x y z : Bool) → cond x 1 (cond y 2 (cond z 3 4)) ≤ 4
      go true y z = omega arith
      go false true z = omega arith
      go false false true = omega arith
      go false false false = omega arith

pair_is : (high low : ℕ) → 0x10000 + (high - 0xD800) * 0x400 + (low - 0xDC00) ≡ paired high low
unfolding paired
pair_is high low = refl

-- ---- an escape that stands further on

carried : (t : List ℕ) {p q : List ℕ → Place} {at on : ℕ} → at ≤ on → ((s : List ℕ) → Onward (p s) (drop at t) (q s) (drop on t)) → (r : Option Escaped) → EscapeAt q t on r → EscapeAt p t at r
carried t h f None x = λ s. fails_then (f s) (x s)
carried t h f (Some r) x = record {
  scalar = x.scalar;
  few = x.few;
  there = x.there;
  wide = omega (arith, x.wide);
  onward = λ s. onward_then (f s) (x.onward s);
}

-- ---- the low surrogate

next_slash : (high : ℕ) (s : List ℕ) → next (after_high high s) 0x5C ≡ after_high_escape high s
unfolding next
next_slash high s = refl

next_u : (high : ℕ) (s : List ℕ) → next (after_high_escape high s) 0x75 ≡ in_unicode (some high) 3 0 s
unfolding next
next_u high s = refl

module _ (high : ℕ) (s : List ℕ) where
  no_u : (bs : List ℕ) → ((rest : List ℕ) → bs ≡ 0x75 ∷ rest → ⊥) → Fails (after_high_escape high s) bs
  unfolding next
  no_u [] f = ended_fails (after_high_escape high s) refl
  no_u (b ∷ bs) f = next_outside_fails (after_high_escape high s) b bs (rw (ne_eqb b 0x75 (λ e. f bs (ap (λ x. x ∷ bs) e))))

  no_low : (bs : List ℕ) → ((rest : List ℕ) → bs ≡ 0x5C ∷ 0x75 ∷ rest → ⊥) → Fails (after_high high s) bs
  unfolding next ends
  no_low [] f = ended_fails (after_high high s) refl
  no_low (b ∷ bs) f = go (eqb b 0x5C) refl
    where
      go : (x : Bool) → eqb b 0x5C ≡ x → Fails (after_high high s) (b ∷ bs)
      go true q =
          let e = eqb-true b 0x5C q in
          rw e (fails_then (byte {b = 0x5C} bs (omega arith) (next_slash high s) refl) (no_u bs (λ rest w. f rest (ap₂ (λ x y. x ∷ y) e w))))
      go false q = next_outside_fails (after_high high s) b bs (rw q)

module _ (t : List ℕ) (at high : ℕ) {v : Bool} (e : v ≡ starts_with eqb (take (length t - at) (drop at t)) (0x5C ∷ 0x75 ∷ [])) where
  said : v ≡ starts_with eqb (drop at t) (0x5C ∷ 0x75 ∷ [])
  said =
      let z : take (length t - at) (drop at t) ≡ drop at t = take_all (length t - at) (drop at t) (simp length-drop (omega arith)) in
      e ∙ ap (λ x. starts_with eqb x (0x5C ∷ 0x75 ∷ [])) z

  pub low_absent : v ≡ false → EscapeAt (after_high high) t at None
  low_absent f = λ s. no_low high s (drop at t) (λ rest w. true≢false (sym ((starts_is Decides-eqb (drop at t) (0x5C ∷ 0x75 ∷ []) v said).1 rest w) ∙ f))

  module _ (f : v ≡ true) where
    begins : drop at t ≡ 0x5C ∷ 0x75 ∷ drop 2 (drop at t)
    begins = (starts_is Decides-eqb (drop at t) (0x5C ∷ 0x75 ∷ []) v said).0 f

    pub low_there : at + 2 ≤ length t
    low_there = omega (arith, ap length begins, length-drop at t)

    past_u : (s : List ℕ) → Onward (after_high high s) (drop at t) (in_unicode (some high) 3 0 s) (drop (at + 2) t)
    unfolding ends
    past_u s =
        rw (begins, drop-drop 2 at t)
        (onward_then (byte {b = 0x5C} (0x75 ∷ drop (at + 2) t) (omega arith) (next_slash high s) refl) (byte {b = 0x75} (drop (at + 2) t) (omega arith) (next_u high s) refl))

    pub low_none : Hex4At t (at + 2) None → EscapeAt (after_high high) t at None
    low_none d = λ s. fails_then (past_u s) (d (some high) s)

    module _ (low : ℕ) (d : Hex4 t (at + 2) low) where
      -- four digits that are no low surrogate
      low_other : is_low low ≡ false → EscapeAt (after_high high) t at None
      low_other p = λ s. fails_then (past_u s) (fails_then (d.onward (some high) s) (rw p (outside_fails (drop (at + 2 + 4) t))))

      pub low_less : low < 0xDC00 → EscapeAt (after_high high) t at None
      low_less l = low_other (low_under low l)

      pub low_more : 0xDFFF < low → EscapeAt (after_high high) t at None
      low_more l = low_other (low_over low l)

      pub low_pair : 0xD800 ≤ high → high ≤ 0xDBFF → 0xDC00 ≤ low → low ≤ 0xDFFF → (r : Escaped) → r.code ≡ 0x10000 + (high - 0xD800) * 0x400 + (low - 0xDC00) → r.to ≡ at + 6
          → Names (after_high high) t at r
      low_pair a b c k r u v =
          let z : at + 2 + 4 ≡ r.to = omega arith in
          let w : r.code ≡ paired high low = u ∙ pair_is high low in
          let i = is_low_half low c k in
          record {
            scalar = rw w (paired_scalar high low (known (is_high_half high a b)) (known i));
            few = omega arith;
            there = omega (arith, d.there);
            wide = omega (arith, width_most r.code);
            onward = λ s. rw (w, ← z) (onward_then (past_u s) (rw i at (d.onward (some high) s)));
          }

-- ---- four digits

module _ (t : List ℕ) (at v : ℕ) (d : Hex4 t at v) where
  pub number_there : at + 4 ≤ length t
  number_there = d.there

  number_plain : is_high v ≡ false → is_low v ≡ false → (r : Escaped) → r.code ≡ v → r.to ≡ at + 4 → Names after_u t at r
  number_plain p q r f g = record {
    scalar = rw f (named_scalar v d.few p q);
    few = omega (arith, d.few);
    there = omega (arith, d.there);
    wide = omega (arith, width_most r.code);
    onward = λ s. rw (f, g) (rw (p, q) at (d.onward none s));
  }

  pub number_under : v < 0xD800 → (r : Escaped) → r.code ≡ v → r.to ≡ at + 4 → Names after_u t at r
  number_under l = number_plain (high_under v l) (low_under v (omega arith))

  pub number_over : 0xDFFF < v → (r : Escaped) → r.code ≡ v → r.to ≡ at + 4 → Names after_u t at r
  number_over l = number_plain (high_over v (omega arith)) (low_over v l)

  pub number_high : 0xD800 ≤ v → v ≤ 0xDBFF → (r : Option Escaped) → EscapeAt (after_high v) t (at + 4) r → EscapeAt after_u t at r
  number_high l h r y = carried t (omega arith) (λ s. rw (is_high_half v l h) at (d.onward none s)) r y

  pub number_low : 0xDC00 ≤ v → v ≤ 0xDFFF → EscapeAt after_u t at None
  number_low l h = λ s. fails_then (rw (high_over v (omega arith), is_low_half v l h) at (d.onward none s)) (outside_fails (drop (at + 4) t))

pub number_none : (t : List ℕ) (at : ℕ) → Hex4At t at None → EscapeAt after_u t at None
number_none t at d = λ s. d none s

-- ---- one letter

-- what a letter leads to
abbrev Letter : List ℕ → Place → Option ℕ → Type 0
Letter s p (Some code) = (p ≡ in_string (s ++ (code ∷ []))) × (code < 0x80)
Letter s p None = p ≡ outside

short_next : (b : ℕ) (s : List ℕ) → (b ≡ 0x75 → ⊥) → Letter s (next (after_escape s) b) (short_or_none b)
unfolding next
short_next b s n = rw (ne_eqb b 0x75 n) (go (eqb b 0x22 || eqb b 0x5C || eqb b 0x2F) (eqb b 0x62) (eqb b 0x66) (eqb b 0x6E) (eqb b 0x72) (eqb b 0x74) (low_self b))
  where
    go : (v u w x y z : Bool) → (v ≡ true → b < 0x80)
        → Letter s
        (cond v (in_string (s ++ (b ∷ []))) (cond u (in_string (s ++ (0x08 ∷ []))) (cond w (in_string (s ++ (0x0C ∷ []))) (cond x (in_string (s ++ (0x0A ∷ []))) (cond y (in_string (s ++ (0x0D ∷ []))) (cond z (in_string (s ++ (0x09 ∷ []))) outside))))))
        (cond v (Some b) (cond u (Some 0x08) (cond w (Some 0x0C) (cond x (Some 0x0A) (cond y (Some 0x0D) (cond z (Some 0x09) None))))))
    go true u w x y z l = (refl, l refl)
    go false true w x y z l = (refl, omega arith)
    go false false true x y z l = (refl, omega arith)
    go false false false true y z l = (refl, omega arith)
    go false false false false true z l = (refl, omega arith)
    go false false false false false true l = (refl, omega arith)
    go false false false false false false l = refl

-- the same of a code that was found
letter_is : (b : ℕ) (s : List ℕ) → (b ≡ 0x75 → ⊥) → (x : Option ℕ) → x ≡ short_or_none b → Letter s (next (after_escape s) b) x
letter_is b s n x e = rw e (short_next b s n)

pub letter_none : (b : ℕ) → (b ≡ 0x22 → ⊥) → (b ≡ 0x5C → ⊥) → (b ≡ 0x2F → ⊥) → (b ≡ 0x62 → ⊥) → (b ≡ 0x66 → ⊥) → (b ≡ 0x6E → ⊥) → (b ≡ 0x72 → ⊥) → (b ≡ 0x74 → ⊥) → None ≡ short_or_none b
letter_none b p q r s u v w x = rw (ne_eqb b 0x22 p, ne_eqb b 0x5C q, ne_eqb b 0x2F r, ne_eqb b 0x62 s, ne_eqb b 0x66 u, ne_eqb b 0x6E v, ne_eqb b 0x72 w, ne_eqb b 0x74 x)

-- a byte from 80 up is no letter
high_letter : (b : ℕ) → 0x80 ≤ b → None ≡ short_or_none b
high_letter b h =
    letter_none b (λ e. omega arith) (λ e. omega arith) (λ e. omega arith) (λ e. omega arith) (λ e. omega arith) (λ e. omega arith) (λ e. omega arith) (λ e. omega arith)

next_letter_u : (s : List ℕ) → next (after_escape s) 0x75 ≡ after_u s
unfolding next
next_letter_u s = refl

module _ (t : List ℕ) (at : ℕ) where
  pub escape_end : length t ≤ at → EscapeAt after_escape t at None
  escape_end l = λ s. rw (drop_of_length-le t l) (ended_fails (after_escape s) refl)

  module _ (h : at < length t) where
    pub escape_number : get_or t at 0 ≡ 0x75 → (r : Option Escaped) → EscapeAt after_u t (at + 1) r → EscapeAt after_escape t at r
    unfolding ends
    escape_number e r x =
        carried t (omega arith) (λ s. rw (at_byte t at h, e) (byte {b = 0x75} (drop (at + 1) t) (omega arith) (next_letter_u s) refl)) r x

    module _ (n : get_or t at 0 ≡ 0x75 → ⊥) where
      pub letter_bad : None ≡ short_or_none (get_or t at 0) → EscapeAt after_escape t at None
      letter_bad e =
          let b = get_or t at 0 in
          λ s. rw (at_byte t at h) (next_outside_fails (after_escape s) b (drop (at + 1) t) (letter_is b s n None e))

      pub letter_good : {code : ℕ} → Some code ≡ short_or_none (get_or t at 0) → (r : Escaped) → r.code ≡ code → r.to ≡ at + 1 → Names after_escape t at r
      unfolding ends
      letter_good {code} e r f g =
          let b = get_or t at 0 in
          let x = letter_is b [] n (Some code) e in
          let low : r.code < 0x80 = omega (arith, x.1) in
          record {
            scalar = scalar_low r.code (omega arith);
            few = omega arith;
            there = omega arith;
            wide = omega (arith, width_1 r.code low);
            onward = λ s.
                let y = letter_is b s n (Some code) e in
                rw (at_byte t at h, g, encode_1 r.code (omega arith), f) (byte {b = b} (drop (at + 1) t) letter_low y.0 refl);
          }
        where
          letter_low : get_or t at 0 < 0x80
          letter_low = ⊎_elim (λ k. absurd (none-some code (high_letter (get_or t at 0) k ∙ sym e))) (λ k. k) (le_or_lt 0x80 (get_or t at 0))
