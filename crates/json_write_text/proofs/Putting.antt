-- Bytes that are written one behind the other.
use Prim.Native.Nat.{ℕ, ◌+◌}
use native.Mathlib.Omega.{arith}
use mathlib.Core.Path.{◌≡◌, refl, sym, ap, ◌∙◌}
use mathlib.Core.List.{List, [], ◌∷◌, ◌++◌}
use lib.ListN.{length, set, length-append}
use Rattle.buffers.specs.InnerOver.{over}
use Rattle.buffers.proofs.Over.{length_over, over_nil, over_join, put_in}
use Rattle.json_write_text.specs.InnerPutting.{Puts, Goes}

-- ---- one part behind the other

pub puts_join : (at mid to : ℕ) (xs ys o o₁ o₂ : List ℕ) → Puts at xs o mid o₁ → Puts mid ys o₁ to o₂ → Puts at (xs ++ ys) o to o₂
puts_join at mid to xs ys o o₁ o₂ p q =
    record {
      ends = omega (arith, p.ends, q.ends, length-append xs ys);
      wrote =
          q.wrote
          ∙ ap (over mid ys) p.wrote
          ∙ ap (λ i. over i ys (over at xs o)) p.ends
          ∙ over_join at xs ys o;
    }

-- one byte more
pub laid_more : (at k : ℕ) (xs o : List ℕ) {o₁ : List ℕ} → o₁ ≡ over at xs o → length xs ≡ k → (b : ℕ) → set o₁ (at + k) b ≡ over at (xs ++ (b ∷ [])) o
laid_more at k xs o {o₁} p l b = put_in o₁ (at + k) b ∙ ap (over (at + k) (b ∷ [])) p ∙ ap (λ i. over (at + i) (b ∷ []) (over at xs o)) (sym l) ∙ over_join at xs (b ∷ []) o

pub puts_one : (at b : ℕ) (o : List ℕ) → Puts at (b ∷ []) o (at + 1) (set o at b)
puts_one at b o = record { ends = refl; wrote = put_in o at b }

pub puts_long : {at to : ℕ} {xs o o' : List ℕ} → Puts at xs o to o' → length o' ≡ length o
puts_long {at} {to} {xs} {o} {o'} p = ap length p.wrote ∙ length_over at xs o

-- ---- what is still to be written

pub goes_start : (at : ℕ) (xs o : List ℕ) → Goes at xs o at xs o
goes_start at xs o = record { ends = refl; same = refl; long = refl }

-- of what is left, the front part is written
pub goes_on : (at : ℕ) (all o : List ℕ) (mid : ℕ) (xs ys o₁ : List ℕ) (to : ℕ) (o₂ : List ℕ) → Goes at all o mid (xs ++ ys) o₁ → Puts mid xs o₁ to o₂ → Goes at all o to ys o₂
goes_on at all o mid xs ys o₁ to o₂ g p =
    record {
      ends = omega (arith, g.ends, p.ends, length-append xs ys);
      same =
          ap (λ i. over i ys o₂) p.ends
          ∙ ap (over (mid + length xs) ys) p.wrote
          ∙ over_join mid xs ys o₁
          ∙ g.same;
      long = puts_long p ∙ g.long;
    }

pub goes_end : (at : ℕ) (all o : List ℕ) (to : ℕ) (xs o₁ : List ℕ) → Goes at all o to xs o₁ → xs ≡ [] → Puts at all o to o₁
goes_end at all o to xs o₁ g e =
    record {
      ends = omega (arith, g.ends, ap length e);
      wrote = sym (over_nil to o₁) ∙ ap (λ l. over to l o₁) (sym e) ∙ g.same;
    }

-- the last part is written
pub goes_last : (at : ℕ) (all o : List ℕ) (mid : ℕ) (xs o₁ : List ℕ) (to : ℕ) (o₂ : List ℕ) → Goes at all o mid xs o₁ → Puts mid xs o₁ to o₂ → Puts at all o to o₂
goes_last at all o mid xs o₁ to o₂ g p = record { ends = p.ends ∙ g.ends; wrote = p.wrote ∙ g.same }
