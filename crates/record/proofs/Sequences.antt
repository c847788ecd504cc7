-- Sequences in characters and in bytes, and which of them a record can hold.
use mathlib.Core.Path.{◌≡◌, refl, ap, ap₂, sym, ◌∙◌}
use mathlib.Core.List.{[], ◌∷◌, ◌++◌, map, List}
use lib.Dec.{T, leb→le, le→leb}
use mathlib.Core.Bool.{◌&&◌}
use Prim.Native.Nat.{◌<◌, ℕ, ◌+◌, ◌≤◌, zero-le}
use native.Mathlib.Omega.{arith}
use lib.ListN.{length, take, drop, length-append, take-append-drop}
use mathlib.Core.Logic.{◌↔◌}
use Rattle.buffers.specs.Lists.{all_of}
use Rattle.buffers.proofs.Tests.{both, le_and}
use Rattle.characters.specs.Form.{is_well_formed}
use Rattle.characters.specs.Text.{bytes, Char, chars}
use Rattle.characters.proofs.Texts.{chars_bytes, bytes_well, bytes_chars, bytes_append, bytes_length, chars_length}
use Rattle.edits.specs.Op.{retain, insert, delete, Op, size, takes, base, total, target}
use Rattle.edits.specs.Apply.{writes, apply}
use Rattle.edits.specs.Sequence.{Seq}
use Rattle.edits.specs.Built.{kind, chained, follows, Built}
use Rattle.record.specs.Record.{in_bytes, in_chars, well_inserted, ByteSeq, gives_chars, fits, inserted, text}
use Rattle.record.specs.Layout.{max_ops, max_size}

pub in_chars_in_bytes : (s : Seq) → map in_chars (map in_bytes s) ≡ s
unfolding in_chars in_bytes
in_chars_in_bytes [] = refl
in_chars_in_bytes (retain n ∷ s) = ap (λ r. retain n ∷ r) (in_chars_in_bytes s)
in_chars_in_bytes (insert x ∷ s) = ap₂ (λ y r. insert y ∷ r) (chars_bytes x) (in_chars_in_bytes s)
in_chars_in_bytes (delete n ∷ s) = ap (λ r. delete n ∷ r) (in_chars_in_bytes s)

pub in_bytes_well : (s : Seq) → T (all_of well_inserted (map in_bytes s))
unfolding in_bytes
in_bytes_well [] = tt
in_bytes_well (retain n ∷ s) = in_bytes_well s
in_bytes_well (insert x ∷ s) = (both (is_well_formed (bytes x)) (all_of well_inserted (map in_bytes s))).1 (bytes_well x, in_bytes_well s)
in_bytes_well (delete n ∷ s) = in_bytes_well s

pub in_bytes_in_chars : (q : ByteSeq) → T (all_of well_inserted q) → map in_bytes (map in_chars q) ≡ q
unfolding in_chars in_bytes
in_bytes_in_chars [] h = refl
in_bytes_in_chars (retain n ∷ q) h = ap (λ r. retain n ∷ r) (in_bytes_in_chars q h)
in_bytes_in_chars (insert x ∷ q) h =
    let (w, k) = (both (is_well_formed x) (all_of well_inserted q)).0 h in ap₂ (λ y r. insert y ∷ r) (bytes_chars x w) (in_bytes_in_chars q k)
in_bytes_in_chars (delete n ∷ q) h = ap (λ r. delete n ∷ r) (in_bytes_in_chars q h)

-- the kinds stay
pub in_bytes_kind : (o : Op Char) → kind (in_bytes o) ≡ kind o
unfolding in_bytes
in_bytes_kind (retain n) = refl
in_bytes_kind (insert x) = refl
in_bytes_kind (delete n) = refl

pub in_bytes_chained : (s : Seq) → chained (map in_bytes s) ≡ chained s
in_bytes_chained [] = refl
in_bytes_chained (o ∷ []) = refl
in_bytes_chained (o ∷ p ∷ s) = ap₂ ◌&&◌ (ap₂ follows (in_bytes_kind o) (in_bytes_kind p)) (in_bytes_chained (p ∷ s))

pub in_bytes_size : (o : Op Char) → 0 < size o → 0 < size (in_bytes o)
unfolding in_bytes
in_bytes_size (retain n) h = h
in_bytes_size (insert x) h = omega (arith, bytes_length x)
in_bytes_size (delete n) h = h

pub in_chars_size : (o : Op ℕ) → T (well_inserted o) → 0 < size o → 0 < size (in_chars o)
unfolding in_chars bytes
in_chars_size (retain n) w h = h
in_chars_size (insert x) w h = go (chars x) (ap length (bytes_chars x w))
  where
    go : (cs : List Char) → length (bytes cs) ≡ length x → 0 < length cs
    go [] e = absurd (omega arith)
    go (c ∷ cs) e = omega arith
in_chars_size (delete n) w h = h

-- base and target are those of the bytes
pub in_bytes_base : (s : Seq) → base (map in_bytes s) ≡ base s
unfolding in_bytes
in_bytes_base [] = refl
in_bytes_base (retain n ∷ s) = ap (λ k. n + k) (in_bytes_base s)
in_bytes_base (insert x ∷ s) = ap (λ k. 0 + k) (in_bytes_base s)
in_bytes_base (delete n ∷ s) = ap (λ k. n + k) (in_bytes_base s)

pub in_bytes_target : (s : Seq) → total gives_chars (map in_bytes s) ≡ target s
unfolding in_bytes
in_bytes_target [] = refl
in_bytes_target (retain n ∷ s) = ap (λ k. n + k) (in_bytes_target s)
in_bytes_target (insert x ∷ s) = ap₂ ◌+◌ (sym (chars_length (bytes x) (bytes_well x)) ∙ ap length (chars_bytes x)) (in_bytes_target s)
in_bytes_target (delete n ∷ s) = ap (λ k. 0 + k) (in_bytes_target s)

-- ---- limits

-- a sequence that a record can hold
pub record Good (s : Seq) : Type 0 where
  pub is_built : Built s
  pub in_limits : T (fits s)

pub record Limits (s : Seq) : Type 0 where
  pub ops : length s ≤ max_ops
  pub text_bytes : length (text (map in_bytes s)) ≤ max_size
  pub bases : base s ≤ max_size
  pub targets : target s ≤ max_size

pub fits_limits : (s : Seq) → T (fits s) ↔ Limits s
unfolding fits
fits_limits s = (
  λ h.
      let (a, h₁) = (le_and (length s) max_ops _).0 h in
      let (b, h₂) = (le_and (length (text (map in_bytes s))) max_size _).0 h₁ in
      let (c, d) = (le_and (base s) max_size _).0 h₂ in
      record { ops = a; text_bytes = b; bases = c; targets = leb→le (target s) max_size d },
  λ l.
      (le_and (length s) max_ops _).1
      (l.ops, (le_and (length (text (map in_bytes s))) max_size _).1 (l.text_bytes, (le_and (base s) max_size _).1 (l.bases, le→leb (target s) max_size l.targets))),
)

-- ---- an edit gives no more bytes than the text before it has and it inserts

-- one operation more, where the others give x from what it leaves
module _ (t x : List Char) (m : ℕ) where
  gives_most : (n : ℕ) → length (bytes x) ≤ length (bytes (drop n t)) + m → length (bytes (take n t)) + length (bytes x) ≤ length (bytes t) + m
  gives_most n h =
      omega (
        arith,
        ap (λ l. length (bytes l)) (take-append-drop n t),
        ap length (bytes_append (take n t) (drop n t)),
        length-append (bytes (take n t)) (bytes (drop n t)),
      )

  writes_most : (o : Op Char) → length (bytes x) ≤ length (bytes (drop (takes o) t)) + m → length (bytes (writes o t ++ x)) ≤ length (bytes t) + (length (inserted (in_bytes o)) + m)
  unfolding in_bytes
  writes_most (retain n) h = omega (arith, gives_most n h, ap length (bytes_append (take n t) x), length-append (bytes (take n t)) (bytes x))
  writes_most (insert y) h = omega (arith, ap length (bytes_append y x), length-append (bytes y) (bytes x))
  writes_most (delete n) h = omega (arith, gives_most n h)

pub apply_most : (s : Seq) (t : List Char) → length (bytes (apply s t)) ≤ length (bytes t) + length (text (map in_bytes s))
apply_most [] t = unfold bytes in zero-le
apply_most (o ∷ s) t = rw length-append (writes_most t (apply s (drop (takes o) t)) (length (text (map in_bytes s))) o (apply_most s (drop (takes o) t)))
