-- The place that `skip` finds.
use Prim.Native.Nat.{ℕ, ◌+◌, ◌-◌, ◌≤◌, min, ◌<◌}
use native.Mathlib.Omega.{arith}
use mathlib.Core.Path.{◌≡◌, refl, sym, ap, ap₂, ◌∙◌}
use mathlib.Core.List.{List, ◌++◌, [], ◌∷◌}
use lib.Dec.{T}
use lib.ListN.{length, take, drop, length-append, length-drop, take-append-drop, length-take}
use lib.Seq.{drop-drop, take_at, drop_at, take_all}
use Rattle.buffers.specs.Lists.{concat}
use Rattle.buffers.proofs.Tests.{holds}
use Rattle.characters.specs.Form.{is_well_formed}
use Rattle.characters.specs.Chars.{number_of_chars, chars_of, take_chars, drop_chars}
use Rattle.characters.specs.Text.{chars, bytes, Char}
use Rattle.characters.specs.InnerPlaces.{Passes}
use Rattle.characters.proofs.Chars.{num_append, num_le, well_all}
use Rattle.characters.proofs.Cuts.{take_drop_chars, num_take}
use Rattle.characters.proofs.Texts.{chars_bytes, bytes_chars, bytes_well, chars_length, bytes_take, bytes_split}

module _ (t : List ℕ) (at k : ℕ) (h : at ≤ length t) (w : T (is_well_formed (drop at t))) where
  -- behind the bytes of k characters
  place : (to : ℕ) → to ≡ at + length (bytes (take k (chars (drop at t)))) → Passes t at k to
  place to e =
      let x = drop at t in
      let p = bytes (take k (chars x)) in
      let q = bytes (drop k (chars x)) in
      let pq : p ++ q ≡ x = bytes_split k x w in
      let d : to - at ≡ length p = omega arith in
      let i : drop to t ≡ q = ap (λ j. drop j t) e ∙ sym (drop-drop (length p) at t) ∙ ap (drop (length p)) (sym pq) ∙ drop_at p q (length p) refl in
      record {
        above = omega arith;
        below = omega (arith, ap length pq, length-append p q, length-drop at t);
        part = ap₂ take d (sym pq) ∙ take_at p q (length p) refl;
        left = ap chars i ∙ chars_bytes (drop k (chars x));
        well = rw i (bytes_well (drop k (chars x)));
      }

  -- all that is left
  pub passes_rest : k ≡ number_of_chars (drop at t) → Passes t at k (length t)
  passes_rest e =
      let x = drop at t in
      let a : take k (chars x) ≡ chars x = take_all k (chars x) (omega (arith, chars_length x w)) in
      place (length t) (omega (arith, ap length (ap bytes a ∙ bytes_chars x w), length-drop at t))

  pub skips : (to : ℕ) → to ≡ at + length (take_chars k (drop at t)) → Passes t at k to
  skips to p = place to (p ∙ ap (λ l. at + length l) skipped)
    where
      skipped : take_chars k (drop at t) ≡ bytes (take k (chars (drop at t)))
      skipped = ap (λ l. l ++ concat (take k (chars_of (drop at t)))) (well_all (drop at t) (holds (is_well_formed (drop at t)) w)).0 ∙ sym (bytes_take k (drop at t) w)

  -- where every character is one byte, k of them are k bytes
  module _ (e : number_of_chars t ≡ length t) where
    plain : number_of_chars (drop at t) ≡ length (drop at t)
    plain =
        omega (
          arith,
          ap number_of_chars (take-append-drop at t),
          num_append (take at t) (drop at t),
          ap length (take-append-drop at t),
          length-append (take at t) (drop at t),
          num_le (take at t),
          num_le (drop at t),
        )

    pub skips_plain : (to : ℕ) → to ≡ at + min k (length t - at) → Passes t at k to
    skips_plain to p = skips to (p ∙ ap (λ i. at + i) (sym taken))
      where
        taken : length (take_chars k (drop at t)) ≡ min k (length t - at)
        taken =
            let x = drop at t in
            omega (
              arith,
              plain,
              length-drop at t,
              ap number_of_chars (take_drop_chars k x),
              num_append (take_chars k x) (drop_chars k x),
              ap length (take_drop_chars k x),
              length-append (take_chars k x) (drop_chars k x),
              num_le (take_chars k x),
              num_le (drop_chars k x),
              num_take k x,
            )

some_chars : (y : List ℕ) → T (is_well_formed y) → 0 < length y → 0 < length (chars y)
unfolding bytes
some_chars y w l = go (chars y) (bytes_chars y w)
  where
    go : (c : List Char) → bytes c ≡ y → 0 < length c
    go [] e = absurd (omega (arith, ap length e))
    go (d ∷ c) e = omega arith

-- characters that the text does not run out of are all there
pub passes_all : (t : List ℕ) (at k to : ℕ) → Passes t at k to → to < length t → k ≡ number_of_chars (take (to - at) (drop at t))
passes_all t at k to p h =
    let x = chars (drop at t) in
    let y = drop to t in
    omega (
      arith,
      ap number_of_chars p.part,
      chars_length (bytes (take k x)) (bytes_well (take k x)),
      ap length (chars_bytes (take k x)),
      length-take k x,
      ap length p.left,
      length-drop k x,
      some_chars y p.well (omega (arith, length-drop to t)),
    )

-- no characters
pub stays_there : (t : List ℕ) (at : ℕ) → at ≤ length t → T (is_well_formed (drop at t)) → Passes t at 0 at
unfolding bytes
stays_there t at h w = place t at 0 h w at (omega arith)
