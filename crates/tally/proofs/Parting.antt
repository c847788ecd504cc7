-- What the passes in 16 and 8 bits go by, and what their sums come to.
use Rattle.std.specs.Prelude.{◌≡◌, ℕ, zero, suc, ◌+◌, ◌-◌, ◌*◌, ◌<◌, ◌≤◌, Bool, true, false, ◌&&◌, eqb, leb, List}
use native.Mathlib.Omega.{arith}
use mathlib.Core.Path.{refl, sym, ap, ◌∙◌, ap₂}
use mathlib.Core.Bool.{and-false}
use borrow.Author.Tests.{eq-eqb, ne_eqb, le-leb, eqb-true, eqb-false}
use Rattle.characters.specs.Form.{within}
use Rattle.record.specs.Record.{sound_entry, Entry, entry_at}
use Rattle.record.specs.Layout.{kind_at, count_at}
use Rattle.entries.specs.InnerTally.{entry, picked, invalid, sum_from, Tallied, clash_at, of_kind, sum_of}
use Rattle.entries.proofs.Tallying.{sound_low, sound_high, sound_count, picked_le, none_both, sum_under, more}
use Rattle.tally.specs.declared.inner.Parts.{Parts}
use Rattle.tally.specs.InnerParts.{empty, parted_by, Whole, Parted}

-- ---- one entry

module _ (k n : ℕ) where
  pub part_one : (p : Parts) (o i j m : ℕ) → o ≡ picked (eqb n 0) 1 → i ≡ picked (eqb k 2) n → j ≡ picked (eqb k 1) n → m ≡ picked (eqb k 3) n
      → record { empty = p.empty + o; inserts = p.inserts + i; kept = p.kept + j; deleted = p.deleted + m } ≡ parted_by p (entry k n)
  unfolding parted_by
  part_one p o i j m q u v w = rw (q, u, v, w)

-- ---- all entries

-- the counts of each kind are no more than all
parts_le : (k n : ℕ) → picked (eqb k 2) n + picked (eqb k 1) n + picked (eqb k 3) n ≤ n
parts_le k n = go (eqb k 2) (eqb k 1) (eqb k 3) refl refl refl
  where
    go : (a b c : Bool) → eqb k 2 ≡ a → eqb k 1 ≡ b → eqb k 3 ≡ c → picked a n + picked b n + picked c n ≤ n
    go true true c p q s = absurd (omega (arith, eqb-true k 2 p, eqb-true k 1 q))
    go true false true p q s = absurd (omega (arith, eqb-true k 2 p, eqb-true k 3 s))
    go true false false p q s = omega arith
    go false true true p q s = absurd (omega (arith, eqb-true k 1 q, eqb-true k 3 s))
    go false true false p q s = omega arith
    go false false true p q s = omega arith
    go false false false p q s = omega arith

-- the operation at k, as the code finds it
module _ (r : List ℕ) (k kind count : ℕ) (q : kind ≡ kind_at r k) (c : count ≡ count_at r k) where
  pub part_more : (p u : Parts) → Parted r k p → u ≡ parted_by p (entry kind count) → Parted r (k + 1) u
  unfolding parted_by
  part_more p u g v =
      let o = picked_le (eqb count 0) 1 in
      let i = parts_le kind count in
      let j : sum_of (λ e. e.count) r k + count ≡ sum_of (λ e. e.count) r (k + 1) = more r k kind count q c (λ e. e.count) refl in
      rw v (
      record {
        empties = more r k kind count q c empty g.empties;
        inserted = more r k kind count q c (of_kind 2) g.inserted;
        retained = more r k kind count q c (of_kind 1) g.retained;
        dropped = more r k kind count q c (of_kind 3) g.dropped;
        few = omega (arith, g.few);
        less = omega (arith, g.less);
      }
      )

  -- each part has room for the entry
  pub part_room : (p : Parts) (n all : ℕ) → k < n → all < 65536 → Whole r n all → Parted r k p → p.inserts + p.kept + p.deleted + count < 65536
  part_room p n all h l w g = omega (arith, g.less, w.counts l, sum_under (λ j. count_at r j) k n h, c)

-- all counts
pub whole_few : (r : List ℕ) (n : ℕ) → Whole r n 65536
whole_few r n = record { counts = λ h. absurd (omega arith) }

pub whole_more : (r : List ℕ) (k count a : ℕ) → count ≡ count_at r k → a ≡ sum_of (λ e. e.count) r k → a + count ≡ sum_of (λ e. e.count) r (k + 1)
whole_more r k count a c e = more r k (kind_at r k) count refl c (λ e. e.count) e

pub whole_found : (r : List ℕ) (n k a : ℕ) → k ≤ n → n ≤ k → a ≡ sum_of (λ e. e.count) r k → Whole r n a
whole_found r n k a h l e = let z : k ≡ n = omega arith in record { counts = λ u. e ∙ ap (sum_of (λ e. e.count) r) z }

pub part_none : (r : List ℕ) → Parted r 0 (record { empty = 0; inserts = 0; kept = 0; deleted = 0 })
part_none r = record { empties = refl; inserted = refl; retained = refl; dropped = refl; few = omega arith; less = omega arith }

-- ---- what can't be, by the parts

-- the count of an entry of no kind
stray : Entry → ℕ
stray e = e.count - (of_kind 2 e + of_kind 1 e + of_kind 3 e)

invalid_none_is : (k n : ℕ) (b : Bool) → b ≡ sound_entry (entry k n) → b ≡ eqb (invalid (entry k n)) 0
invalid_none_is k n true e = rw (← e)
invalid_none_is k n false e = rw (← e)

kind_sound : (k n : ℕ) → 1 ≤ k → k ≤ 3 → 1 ≤ n → true ≡ sound_entry (entry k n)
kind_sound k n a b c = sym (le-leb 1 n c) ∙ sound_count k n (λ z. absurd (omega arith)) b

-- an entry can be where its count isn't 0 and is of a kind
stray_none : (k n : ℕ) → eqb (empty (entry k n) + stray (entry k n)) 0 ≡ eqb (invalid (entry k n)) 0
unfolding stray
stray_none k n = go (eqb n 0) (eqb k 2) (eqb k 1) (eqb k 3) refl refl refl refl
  where
    other : (k ≡ 2 → ⊥) → (k ≡ 1 → ⊥) → (k ≡ 3 → ⊥) → (z : Bool) → eqb k 0 ≡ z → false ≡ sound_entry (entry k n)
    other p q s true h = sound_low k n (eqb-true k 0 h)
    other p q s false h = sound_high k n (omega (arith, eqb-false k 0 h))

    go : (z a b c : Bool) → eqb n 0 ≡ z → eqb k 2 ≡ a → eqb k 1 ≡ b → eqb k 3 ≡ c → eqb (picked z 1 + (n - (picked a n + picked b n + picked c n))) 0 ≡ eqb (invalid (entry k n)) 0
    go true a b c y p q s =
        ne_eqb (1 + (n - (picked a n + picked b n + picked c n))) 0 (λ z. absurd (omega arith))
        ∙ invalid_none_is k n false (sym (ap (λ m. within 1 3 k && leb 1 m) (eqb-true n 0 y) ∙ and-false (within 1 3 k)))
    go false true b c y p q s =
        eq-eqb (0 + (n - (n + picked b n + picked c n))) 0 (omega arith)
        ∙ invalid_none_is k n true (kind_sound k n (omega (arith, eqb-true k 2 p)) (omega (arith, eqb-true k 2 p)) (omega (arith, eqb-false n 0 y)))
    go false false true c y p q s =
        eq-eqb (0 + (n - (0 + n + picked c n))) 0 (omega arith)
        ∙ invalid_none_is k n true (kind_sound k n (omega (arith, eqb-true k 1 q)) (omega (arith, eqb-true k 1 q)) (omega (arith, eqb-false n 0 y)))
    go false false false true y p q s =
        eq-eqb (0 + (n - (0 + 0 + n))) 0 (omega arith)
        ∙ invalid_none_is k n true (kind_sound k n (omega (arith, eqb-true k 3 s)) (omega (arith, eqb-true k 3 s)) (omega (arith, eqb-false n 0 y)))
    go false false false false y p q s =
        ne_eqb (0 + (n - (0 + 0 + 0))) 0 (λ z. absurd (omega (arith, eqb-false n 0 y)))
        ∙ invalid_none_is k n false (other (eqb-false k 2 p) (eqb-false k 1 q) (eqb-false k 3 s) (eqb k 0) refl)

module _ (r : List ℕ) where
  parts_sum : (i n : ℕ)
      → sum_from (count_at r) i n ≡ sum_from (λ j. of_kind 2 (entry_at r j)) i n + sum_from (λ j. of_kind 1 (entry_at r j)) i n + sum_from (λ j. of_kind 3 (entry_at r j)) i n + sum_from (λ j. stray (entry_at r j)) i n
  unfolding stray
  parts_sum i zero = refl
  parts_sum i (suc n) = omega (arith, parts_sum (suc i) n, parts_le (kind_at r i) (count_at r i))

  strays_none : (i n : ℕ) → eqb (sum_from (λ j. empty (entry_at r j)) i n + sum_from (λ j. stray (entry_at r j)) i n) 0 ≡ eqb (sum_from (λ j. invalid (entry_at r j)) i n) 0
  strays_none i zero = refl
  strays_none i (suc n) =
      let e = empty (entry_at r i) in
      let x = stray (entry_at r i) in
      let es = sum_from (λ j. empty (entry_at r j)) (suc i) n in
      let xs = sum_from (λ j. stray (entry_at r j)) (suc i) n in
      let w : e + es + (x + xs) ≡ e + x + (es + xs) = omega arith in
      ap (λ y. eqb y 0) w
      ∙ none_both (e + x) (es + xs)
      ∙ ap₂ ◌&&◌ (stray_none (kind_at r i) (count_at r i)) (strays_none (suc i) n)
      ∙ sym (none_both (invalid (entry_at r i)) (sum_from (λ j. invalid (entry_at r j)) (suc i) n))

  module _ (n all : ℕ) (p : Parts) (l : all < 65536) (w : Whole r n all) (g : Parted r n p) where
    pub parts_under : p.inserts + p.kept + p.deleted ≤ all
    parts_under = omega (arith, g.less, w.counts l)

    whole_small : all ≤ 65536 * n
    whole_small = go n (w.counts l)
      where
        go : (m : ℕ) → all ≡ sum_of (λ e. e.count) r m → all ≤ 65536 * m
        go zero e = omega arith
        go (suc m) e = omega (arith, l)

    pub tally_parts : (a : ℕ) → a ≡ sum_from (clash_at r) 0 (n - 1) → a ≤ n
        → Tallied r n (record { invalid = p.empty + (all - p.inserts - p.kept - p.deleted); inserts = p.inserts; all = all; kept = p.kept; clashes = a })
    tally_parts a e h =
        let u = parts_under in
        let v = whole_small in
        let x : all - p.inserts - p.kept - p.deleted ≡ sum_of stray r n = omega (arith, w.counts l, g.inserted, g.retained, g.dropped, parts_sum 0 n) in
        record {
          invalids = ap₂ (λ x y. eqb (x + y) 0) g.empties x ∙ strays_none 0 n;
          inserted = g.inserted;
          counts = w.counts l;
          retained = g.retained;
          neighbours = λ z. e;
          few = omega (arith, g.few);
          less = omega arith;
          fewer = omega arith;
          small = v;
          close = h;
        }
