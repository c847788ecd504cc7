-- What is being built never shrinks: once it passes a limit, so does the whole.
use Rattle.std.specs.Prelude.{◌≡◌, ℕ, ◌+◌, ◌≤◌, T, List, [], ◌∷◌, ◌++◌, map, reverse, length}
use native.Mathlib.Nat.{le_refl, le_trans}
use native.Mathlib.Omega.{arith}
use mathlib.Core.Path.{◌∙◌, refl, ap}
use mathlib.Core.List.{reverse_aux}
use lib.ListN.{length-append}
use Rattle.characters.specs.Text.{Char}
use Rattle.characters.proofs.Texts.{bytes_append}
use Rattle.edits.specs.Op.{Op, retain, insert, delete, size, total, takes, gives}
use Rattle.edits.specs.Build.{put, add, add_all}
use Rattle.edits.specs.Sequence.{Seq}
use Rattle.edits.proofs.Meaning.{if_zero_elim}
use Rattle.record.specs.Record.{in_bytes, inserted, text, fits}
use Rattle.record.proofs.Sequences.{fits_limits}

module _ {C : Type 0} where
  -- a count that does not fall when an operation is joined to
  pub record Grows (f : Op C → ℕ) : Type 0 where
    pub retains : (m n : ℕ) → f (retain m) ≤ f (retain (m + n))
    pub inserts : (x y : List C) → f (insert x) ≤ f (insert (x ++ y))
    pub deletes : (m n : ℕ) → f (delete m) ≤ f (delete (m + n))

  module _ (f : Op C → ℕ) (G : Grows f) where
    put_grows : (o : Op C) (r : List (Op C)) → total f r ≤ total f (put o r)
    unfolding put
    put_grows o [] = omega arith
    put_grows (retain n) (retain m ∷ r) = omega (arith, G.retains m n)
    put_grows (retain n) (insert x ∷ r) = omega arith
    put_grows (retain n) (delete m ∷ r) = omega arith
    put_grows (insert s) (retain m ∷ r) = omega arith
    put_grows (insert s) (insert x ∷ r) = omega (arith, G.inserts x s)
    put_grows (insert s) (delete m ∷ []) = omega arith
    put_grows (insert s) (delete m ∷ retain k ∷ r) = omega arith
    put_grows (insert s) (delete m ∷ insert x ∷ r) = omega (arith, G.inserts x s)
    put_grows (insert s) (delete m ∷ delete k ∷ r) = omega arith
    put_grows (delete n) (retain m ∷ r) = omega arith
    put_grows (delete n) (insert x ∷ r) = omega arith
    put_grows (delete n) (delete m ∷ r) = omega (arith, G.deletes m n)

    pub add_all_grows : (r s : List (Op C)) → total f r ≤ total f (add_all r s)
    unfolding add_all add
    add_all_grows r [] = le_refl (total f r)
    add_all_grows r (o ∷ s) =
        le_trans (if_zero_elim (λ q. total f r ≤ total f q) (size o) (λ _. le_refl (total f r)) (λ _. put_grows o r)) (add_all_grows (add r o) s)

  total_reverse_aux : (f : Op C → ℕ) (r s : List (Op C)) → total f (reverse_aux r s) ≡ total f r + total f s
  total_reverse_aux f [] s = omega arith
  total_reverse_aux f (o ∷ r) s = total_reverse_aux f r (o ∷ s) ∙ omega arith

  pub total_reverse : (f : Op C → ℕ) (r : List (Op C)) → total f (reverse r) ≡ total f r
  total_reverse f r = total_reverse_aux f r [] ∙ omega arith

abbrev one : Op Char → ℕ
one o = 1

abbrev bytes_of_text : Op Char → ℕ
bytes_of_text o = length (inserted (in_bytes o))

records_total : (s : Seq) → length s ≡ total one s
records_total [] = refl
records_total (o ∷ s) = omega (arith, records_total s)

text_total : (s : Seq) → length (text (map in_bytes s)) ≡ total bytes_of_text s
text_total [] = refl
text_total (o ∷ s) = simp length-append (ap (λ n. bytes_of_text o + n) (text_total s))

-- no partial result of the builders passes a limit where the whole passes none
pub fits_early : (r u : Seq) → T (fits (reverse (add_all r u))) → T (fits (reverse r))
unfolding in_bytes
fits_early r u h =
    let w = reverse (add_all r u) in
    let l = (fits_limits w).0 h in
    let G₁ : Grows one = record { retains = λ m n. omega arith; inserts = λ x y. omega arith; deletes = λ m n. omega arith } in
    let G₂ : Grows bytes_of_text = record {
      retains = λ m n. omega arith;
      inserts = λ x y. rw bytes_append (simp length-append (omega arith));
      deletes = λ m n. omega arith;
    } in
    let G₃ : Grows {C = Char} takes = record { retains = λ m n. omega arith; inserts = λ x y. omega arith; deletes = λ m n. omega arith } in
    let G₄ : Grows {C = Char} gives = record {
      retains = λ m n. omega arith;
      inserts = λ x y. simp length-append (omega arith);
      deletes = λ m n. omega arith;
    } in
    (fits_limits (reverse r)).1 (record {
      ops = omega (arith, l.ops, records_total w, records_total (reverse r), total_reverse one (add_all r u), total_reverse one r, add_all_grows one G₁ r u);
      text_bytes = omega (arith, l.text_bytes, text_total w, text_total (reverse r), total_reverse bytes_of_text (add_all r u), total_reverse bytes_of_text r, add_all_grows bytes_of_text G₂ r u);
      bases = omega (arith, l.bases, total_reverse takes (add_all r u), total_reverse takes r, add_all_grows takes G₃ r u);
      targets = omega (arith, l.targets, total_reverse gives (add_all r u), total_reverse gives r, add_all_grows gives G₄ r u);
    })
