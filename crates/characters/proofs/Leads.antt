-- First bytes: which row of the table a byte is in, and what every row has in common.
use Rattle.std.specs.Prelude.{Some, None}
use Prim.Native.Nat.{ℕ, ◌≤◌, ◌<◌, zero, suc}
use mathlib.Core.Path.{◌≡◌, refl, sym, ◌∙◌}
use mathlib.Core.Logic.{◌⊎◌, inl, inr}
use mathlib.Core.Bool.{Bool, true, false, and-false, ◌&&◌, ◌||◌, cond, false≢true}
use lib.Dec.{leb, T, leb→le, ltb}
use borrow.Author.Tests.{leb-true, leb-false, le-leb, lt-leb}
use mathlib.Core.List.{List, [], ◌∷◌}
use native.Mathlib.Omega.{arith}
use lib.ListN.{get_or}
use Rattle.buffers.specs.Lists.{all_of}
use Rattle.buffers.proofs.Tests.{le_and, both, known}
use Rattle.characters.specs.Form.{within, Row, lead_in, rows, lead_from, Lead}
use Rattle.characters.specs.InnerPassed.{spans}
use Rattle.characters.specs.Chars.{is_continuation}

pub le_or_lt : (a b : ℕ) → (a ≤ b) ⊎ (b < a)
le_or_lt a b = go (leb a b) refl
  where
    go : (t : Bool) → leb a b ≡ t → (a ≤ b) ⊎ (b < a)
    go true e = inl (leb-true a b e)
    go false e = inr (leb-false a b e)

module _ (lo hi b : ℕ) where
  pub inside : lo ≤ b → b ≤ hi → within lo hi b ≡ true
  unfolding within
  inside l h = simp (le-leb lo b l, le-leb b hi h)

  pub under : b < lo → within lo hi b ≡ false
  unfolding within
  under l = simp (lt-leb lo b l)

  pub over : hi < b → within lo hi b ≡ false
  unfolding within
  over h = rw (lt-leb b hi h) (and-false (leb lo b))

  pub within_bounds : T (within lo hi b) → (lo ≤ b) × (b ≤ hi)
  unfolding within
  within_bounds t = let (l, h) = (le_and lo b (leb b hi)).0 t in (l, leb→le b hi h)

-- the bytes from lo to hi are in row k, and in none before it; past the last row, in none at all
abbrev pub in_row : ℕ → ℕ → ℕ → List Row → Bool
in_row k lo hi [] = true
in_row zero lo hi (r ∷ rs) = leb r.first lo && leb hi r.last
in_row (suc k) lo hi (r ∷ rs) = (ltb hi r.first || ltb r.last lo) && in_row k lo hi rs

abbrev none : Row
none = record { first = 0; last = 0; lead = None }

outside : (a z lo hi b : ℕ) → T (ltb hi a || ltb z lo) → lo ≤ b → b ≤ hi → within a z b ≡ false
outside a z lo hi b t l h = go (ltb hi a) refl t
  where
    go : (u : Bool) → ltb hi a ≡ u → T (u || ltb z lo) → within a z b ≡ false
    go true e t = under a z b (omega (arith, leb-true (suc hi) a e))
    go false e t = over a z b (omega (arith, leb→le (suc z) lo t))

hit : (rs : List Row) (k lo hi b : ℕ) → T (in_row k lo hi rs) → lo ≤ b → b ≤ hi → lead_in rs b ≡ (get_or rs k none).lead
unfolding lead_in
hit [] zero lo hi b t l h = refl
hit [] (suc k) lo hi b t l h = refl
hit (r ∷ rs) zero lo hi b t l h =
    let (p, q) = (le_and r.first lo (leb hi r.last)).0 t in
    rw (inside r.first r.last b (omega arith) (omega (arith, leb→le hi r.last q)))
hit (r ∷ rs) (suc k) lo hi b t l h =
    let (p, q) = (both (ltb hi r.first || ltb r.last lo) (in_row k lo hi rs)).0 t in
    rw (outside r.first r.last lo hi b p l h) (hit rs k lo hi b q l h)

pub lead_row : (k lo hi : ℕ) {b : ℕ} → T (in_row k lo hi rows) → lo ≤ b → b ≤ hi → (get_or rows k none).lead ≡ lead_from b
unfolding lead_from
lead_row k lo hi {b} t l h = sym (hit rows k lo hi b t l h)

-- the bytes from lo to hi begin characters of n bytes, or none
abbrev pub spanned : ℕ → ℕ → ℕ → Row → Bool
spanned lo hi n r = (ltb hi r.first || ltb r.last lo) || spans r.lead n

spans_in : (rs : List Row) (lo hi n b : ℕ) → T (all_of (spanned lo hi n) rs) → lo ≤ b → b ≤ hi → T (spans (lead_in rs b) n)
unfolding lead_in
spans_in [] lo hi n b t l h = tt
spans_in (r ∷ rs) lo hi n b t l h =
    let (f, g) = (both (spanned lo hi n r) (all_of (spanned lo hi n) rs)).0 t in
    go (within r.first r.last b) refl (ltb hi r.first || ltb r.last lo) refl f (spans_in rs lo hi n b g l h)
  where
    go : (v : Bool) → within r.first r.last b ≡ v → (u : Bool) → (ltb hi r.first || ltb r.last lo) ≡ u → T (u || spans r.lead n) → T (spans (lead_in rs b) n) → T (spans (cond v r.lead (lead_in rs b)) n)
    go true p true q f k = absurd (false≢true (sym (outside r.first r.last lo hi b (known q) l h) ∙ p))
    go true p false q f k = f
    go false p u q f k = k

pub spans_row : (lo hi n : ℕ) {b : ℕ} → T (all_of (spanned lo hi n) rows) → lo ≤ b → b ≤ hi → T (spans (lead_from b) n)
unfolding lead_from
spans_row lo hi n {b} t l h = spans_in rows lo hi n b t l h

-- a range of second bytes holds continuations only
abbrev pub sane : Lead → Bool
sane None = true
sane (Some (n, lo, hi)) = leb 0x80 lo && leb hi 0xBF

-- at most three bytes follow
abbrev pub short : Lead → Bool
short None = true
short (Some (n, lo, hi)) = leb n 3

-- what holds of each row, and of a byte in none
every : (p : Lead → Bool) (rs : List Row) (b : ℕ) → T (p None) → T (all_of (λ r. p r.lead) rs) → T (p (lead_in rs b))
unfolding lead_in
every p [] b z t = z
every p (r ∷ rs) b z t = let (f, g) = (both (p r.lead) (all_of (λ r. p r.lead) rs)).0 t in go (within r.first r.last b) f (every p rs b z g)
  where
    go : (u : Bool) → T (p r.lead) → T (p (lead_in rs b)) → T (p (cond u r.lead (lead_in rs b)))
    go true f g = f
    go false f g = g

pub sane_lead : (b : ℕ) → T (sane (lead_from b))
unfolding lead_from rows
sane_lead b = every sane rows b tt tt

pub short_lead : (b : ℕ) → T (short (lead_from b))
unfolding lead_from rows
short_lead b = every short rows b tt tt

-- so what is no continuation is in none
pub in_range : (lo hi b : ℕ) → T (sane (Some (0, lo, hi))) → is_continuation b ≡ false → within lo hi b ≡ false
unfolding is_continuation
in_range lo hi b s e = go (within lo hi b) refl
  where
    go : (t : Bool) → within lo hi b ≡ t → t ≡ false
    go true p =
        let (l, h) = within_bounds lo hi b (rw p tt) in
        let (x, y) = (le_and 0x80 lo (leb hi 0xBF)).0 s in
        sym (inside 0x80 0xBF b (omega arith) (omega (arith, leb→le hi 0xBF y))) ∙ e
    go false p = refl

pub cont_bad : (b : ℕ) → is_continuation b ≡ true → lead_from b ≡ None
unfolding is_continuation rows
cont_bad b e = let (l, h) = within_bounds 0x80 0xBF b (rw e tt) in sym (lead_row 9 0x80 0xBF tt l h)
