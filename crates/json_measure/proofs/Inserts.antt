-- All inserts at once: from what one pass over the text finds to what each insert is.
use Rattle.std.specs.Prelude.{◌≡◌, ℕ, ◌+◌, ◌-◌, ◌≤◌, Bool, true, false, cond, not, List, length, take, drop, Option, Some, None}
use Rattle.std.proofs.lemmas.Option.{none-some, same_Some}
use native.Mathlib.Omega.{arith}
use mathlib.Core.Path.{refl, sym, ap, ap₂, ◌∙◌}
use Rattle.buffers.specs.Lists.{all_of}
use Rattle.characters.specs.Form.{is_well_formed}
use Rattle.characters.specs.Chars.{number_of_chars}
use Rattle.characters.specs.InnerPassed.{form_of}
use Rattle.record.specs.Layout.{op_count_of, text_bytes_of, start_of_text}
use Rattle.record.specs.Record.{entries, text_of, byte_ops, well_inserted}
use Rattle.inserts.specs.InnerTexts.{starts_with_char, Sound, inserted_of}
use Rattle.inserts.proofs.Texts.{text_ill, text_stops, text_starts, text_plain}
use Rattle.json_lists.specs.Written.{escaped_all}
use Rattle.json_measure.specs.declared.inner.Texts.{Texts}
use Rattle.json_measure.specs.InnerSizes.{sizes_of, inserts_of}

-- ---- what the pass finds

abbrev as_form : Option Texts → Option ℕ
as_form None = None
as_form (Some x) = Some x.chars

-- what is found of a text that is well-formed
abbrev of : List ℕ → Texts
of t = record { chars = number_of_chars t; bytes = length (escaped_all t) }

as_form_is : (t : List ℕ) → as_form (sizes_of t) ≡ form_of t
unfolding sizes_of form_of
as_form_is t = go (is_well_formed t)
  where
    go : (w : Bool) → as_form (cond w (Some (of t)) None) ≡ cond w (Some (number_of_chars t)) None
    go true = refl
    go false = refl

bytes_are : (t : List ℕ) (x : Texts) → Some x ≡ sizes_of t → x.bytes ≡ length (escaped_all t)
unfolding sizes_of
bytes_are t x = go (is_well_formed t)
  where
    go : (w : Bool) → Some x ≡ cond w (Some (of t)) None → x.bytes ≡ length (escaped_all t)
    go true e = ap (λ (y : Texts). y.bytes) (same_Some x (of t) e)
    go false e = absurd (none-some x (sym e))

-- ---- what is found of each insert

module _ (r : List ℕ) where
  none_of : None ≡ inserted_of r → None ≡ inserts_of r
  unfolding inserted_of inserts_of
  none_of = go (all_of well_inserted (byte_ops r))
    where
      go : (w : Bool) → None ≡ cond w (Some (number_of_chars (text_of r))) None → None ≡ cond w (Some (of (text_of r))) None
      go true e = absurd (none-some (number_of_chars (text_of r)) e)
      go false e = refl

  all_of_it : (x : Texts) → Some x.chars ≡ inserted_of r → x.bytes ≡ length (escaped_all (text_of r)) → Some x ≡ inserts_of r
  unfolding inserted_of inserts_of
  all_of_it x e f = go (all_of well_inserted (byte_ops r)) e
    where
      go : (w : Bool) → Some x.chars ≡ cond w (Some (number_of_chars (text_of r))) None → Some x ≡ cond w (Some (of (text_of r))) None
      go true e = let z = same_Some x.chars (number_of_chars (text_of r)) e in λ i. Some (record { chars = z i; bytes = f i })
      go false e = absurd (none-some x.chars (sym e))

module _ (r : List ℕ) (n t from : ℕ) (s : Sound r) (e : n ≡ op_count_of r) (f : t ≡ text_bytes_of r) (g : from ≡ start_of_text n) (x : Option Texts) (p : x ≡ sizes_of (take (from + t - from) (drop from r))) where
  formed : as_form x ≡ form_of (take (from + t - from) (drop from r))
  formed = ap as_form p ∙ as_form_is (take (from + t - from) (drop from r))

  pub inserts_ill : x ≡ None → None ≡ inserts_of r
  inserts_ill y = none_of r (text_ill r n t from s e f g (as_form x) formed (ap as_form y))

  module _ (q : Texts) (y : x ≡ Some q) where
    bytes : q.bytes ≡ length (escaped_all (text_of r))
    unfolding text_of
    bytes =
        let z : from + t - from ≡ text_bytes_of r = omega arith in
        bytes_are (take (from + t - from) (drop from r)) q (sym y ∙ p) ∙ ap₂ (λ m i. length (escaped_all (take m (drop i r)))) z (g ∙ ap start_of_text e)

    pub inserts_stop : (w : Bool) → w ≡ starts_with_char (entries r) (drop (start_of_text n) r) → not w ≡ true → None ≡ inserts_of r
    inserts_stop w z v = none_of r (text_stops r n t from s e f g (as_form x) formed (ap as_form y) w z v)

    pub inserts_start : (w : Bool) → w ≡ starts_with_char (entries r) (drop (start_of_text n) r) → not w ≡ false → Some q ≡ inserts_of r
    inserts_start w z v = all_of_it r q (text_starts r n t from s e f g (as_form x) formed (ap as_form y) w z v) bytes

    pub inserts_plain : t ≤ q.chars → Some q ≡ inserts_of r
    inserts_plain h = all_of_it r q (text_plain r n t from s e f g (as_form x) formed (ap as_form y) h) bytes

-- ---- what the check goes by

module _ (r : List ℕ) (x : Option Texts) (p : x ≡ inserts_of r) where
  pub found_ill : x ≡ None → None ≡ inserted_of r
  unfolding inserted_of inserts_of
  found_ill y = go (all_of well_inserted (byte_ops r)) (sym y ∙ p)
    where
      go : (w : Bool) → None ≡ cond w (Some (of (text_of r))) None → None ≡ cond w (Some (number_of_chars (text_of r))) None
      go true e = absurd (none-some (of (text_of r)) e)
      go false e = refl

  module _ (q : Texts) (y : x ≡ Some q) where
    found : (Some q.chars ≡ inserted_of r) × (q.bytes ≡ length (escaped_all (text_of r)))
    unfolding inserted_of inserts_of
    found = go (all_of well_inserted (byte_ops r)) (sym y ∙ p)
      where
        go : (w : Bool) → Some q ≡ cond w (Some (of (text_of r))) None
            → (Some q.chars ≡ cond w (Some (number_of_chars (text_of r))) None) × (q.bytes ≡ length (escaped_all (text_of r)))
        go true e = let z = same_Some q (of (text_of r)) e in (ap (λ (u : Texts). Some u.chars) z, ap (λ (u : Texts). u.bytes) z)
        go false e = absurd (none-some q (sym e))

    pub found_chars : Some q.chars ≡ inserted_of r
    found_chars = found.0

    pub found_bytes : q.bytes ≡ length (escaped_all (text_of r))
    found_bytes = found.1
