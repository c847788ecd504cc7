-- A character has at most four bytes.
use Rattle.std.specs.Prelude.{Some, None}
use Prim.Native.Nat.{ℕ, zero, suc, ◌≤◌, ◌*◌}
use mathlib.Core.Bool.{Bool, true, false, cond}
use mathlib.Core.List.{List, [], ◌∷◌}
use lib.Dec.{T, leb, leb→le}
use mathlib.Core.Path.{◌≡◌, refl, ap}
use lib.ListN.{length, length-append}
use native.Mathlib.Omega.{arith}
use Rattle.buffers.specs.Lists.{all_of}
use Rattle.buffers.proofs.Tests.{both}
use Rattle.characters.specs.Form.{within, Row, lead_in, rows, lead_from, whole, well_char, Lead}
use Rattle.characters.specs.Text.{Char, bytes}

-- what holds of every row of the table, and of a byte of no row, holds of every first byte
module _ (P : Lead → Bool) (bad : T (P None)) where
  lead_in_row : (rs : List Row) (b : ℕ) → T (all_of (λ r. P r.lead) rs) → T (P (lead_in rs b))
  unfolding lead_in
  lead_in_row [] b t = bad
  lead_in_row (r ∷ rs) b t = let (p, q) = (both (P r.lead) (all_of (λ r. P r.lead) rs)).0 t in go (within r.first r.last b) p (lead_in_row rs b q)
    where
      go : (u : Bool) → T (P r.lead) → T (P (lead_in rs b)) → T (P (cond u r.lead (lead_in rs b)))
      go true f g = f
      go false f g = g

-- at most three bytes are due
abbrev few : Lead → Bool
few None = true
few (Some (n, lo, hi)) = leb n 3

few_lead : (b : ℕ) → T (few (lead_from b))
unfolding lead_from rows
few_lead b = lead_in_row few tt rows b tt

whole_length : (bs : List ℕ) (n lo hi : ℕ) → T (whole bs (Some (n, lo, hi))) → length bs ≡ n
whole_length [] zero lo hi t = refl
whole_length [] (suc n) lo hi t = absurd t
whole_length (b ∷ bs) zero lo hi t = absurd t
whole_length (b ∷ bs) (suc n) lo hi t = ap suc (whole_length bs n 0x80 0xBF ((both (within lo hi b) _).0 t).1)

char_length : (l : List ℕ) → T (well_char l) → length l ≤ 4
char_length [] t = absurd t
char_length (b ∷ bs) t = go (lead_from b) bs t (few_lead b)
  where
    go : (x : Lead) (bs : List ℕ) → T (whole bs x) → T (few x) → suc (length bs) ≤ 4
    go None [] t f = absurd t
    go None (c ∷ bs) t f = absurd t
    go (Some (n, lo, hi)) bs t f = omega (arith, whole_length bs n lo hi t, leb→le n 3 f)

pub bytes_most : (cs : List Char) → length (bytes cs) ≤ 4 * length cs
unfolding bytes
bytes_most [] = omega arith
bytes_most (c ∷ cs) = simp length-append (omega (arith, char_length c.bytes c.well, bytes_most cs))
