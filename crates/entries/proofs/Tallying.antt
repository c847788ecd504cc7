-- What the passes over the kinds and the counts go by: from operation k on, what the whole comes to.
use Rattle.std.specs.Prelude.{◌≡◌, ℕ, zero, suc, ◌+◌, ◌-◌, ◌<◌, ◌≤◌, Bool, true, false, cond, not, ◌&&◌, T, eqb, leb, ◌⊎◌, List, take, drop}
use native.Mathlib.Nat.{add-zero, zero-add}
use native.Mathlib.Omega.{arith}
use mathlib.Core.Path.{refl, sym, ap, ◌∙◌, ap₂}
use borrow.Author.Tests.{eq-eqb, ne_eqb, le-leb, eqb-true, eqb-false}
use native.Mathlib.Numerals.{add-one}
use mathlib.Core.Logic.{inl, inr}
use lib.Seq.{take-add}
use Rattle.buffers.specs.Lists.{all_of}
use Rattle.buffers.proofs.Tests.{both}
use Rattle.characters.specs.Form.{within}
use Rattle.characters.specs.Chars.{number_of_chars}
use Rattle.characters.proofs.Leads.{inside, under, over}
use Rattle.characters.proofs.Chars.{num_append}
use Rattle.edits.specs.Built.{kind, follows, chained}
use Rattle.edits.specs.Op.{Op, retain, insert, delete}
use Rattle.record.specs.Record.{sound_entry, Entry, entry_at, code, operation, entries_from, operations, entries, text_of, byte_ops}
use Rattle.record.specs.Layout.{kind_at, count_at, op_count_of}
use Rattle.record.proofs.Records.{sound_kind}
use Rattle.entries.specs.declared.inner.Tally.{Tally}
use Rattle.entries.specs.InnerTally.{entry, picked, invalid, tallied, can_follow, sum_from, Tallied, clash_at, of_kind, sum_of}

-- ---- one entry

module _ (k n : ℕ) where
  pub sound_low : k ≡ 0 → false ≡ sound_entry (entry k n)
  sound_low z = rw (under 1 3 k (omega arith))

  pub sound_high : 3 < k → false ≡ sound_entry (entry k n)
  sound_high z = rw (over 1 3 k z)

  pub sound_count : (k ≡ 0 → ⊥) → k ≤ 3 → leb 1 n ≡ sound_entry (entry k n)
  sound_count z h = rw (inside 1 3 k (omega arith) h)

  pub count_one : (t : Tally) (b a : Bool) (o i j m : ℕ) → b ≡ sound_entry (entry k n) → o ≡ picked (not b) 1 → i ≡ picked (eqb k 2) n → j ≡ picked (eqb k 1) n → m ≡ picked a 1
      → record { invalid = t.invalid + o; inserts = t.inserts + i; all = t.all + n; kept = t.kept + j; clashes = t.clashes + m } ≡ tallied t (entry k n) a
  unfolding tallied
  count_one t b a o i j m p q u v w = rw (q, u, v, w, p)

  invalid_known : (k ≡ 0 → ⊥) → k ≤ 3 → picked (eqb n 0) 1 ≡ invalid (entry k n)
  invalid_known z h = ap (λ b. picked b 1) (go n) ∙ ap (λ b. picked (not b) 1) (sound_count z h)
    where
      go : (n : ℕ) → eqb n 0 ≡ not (leb 1 n)
      go zero = refl
      go (suc n) = rw (ne_eqb (suc n) 0 (λ z. absurd (omega (arith, z))), le-leb 1 (suc n) (omega arith))

  -- by its kind
  module _ (t : Tally) (last o m : ℕ) (b : Bool) where
    pub enter_retain : k ≡ 1 → o ≡ picked (eqb n 0) 1 → b ≡ can_follow last 1 → m ≡ picked (not b) 1
        → record { invalid = t.invalid + o; inserts = t.inserts; all = t.all + n; kept = t.kept + n; clashes = t.clashes + m } ≡ tallied t (entry k n) (not (can_follow last k))
    enter_retain e p q s =
        (λ i. record { invalid = t.invalid + o; inserts = sym (add-zero t.inserts) i; all = t.all + n; kept = t.kept + n; clashes = t.clashes + m })
        ∙ count_one t (sound_entry (entry k n)) (not (can_follow last k)) o 0 n m refl (p ∙ invalid_known (λ z. absurd (omega arith)) (omega arith)) (rw (ne_eqb k 2 (λ z. absurd (omega arith)))) (rw (eq-eqb k 1 e)) (s ∙ ap (λ x. picked (not x) 1) (q ∙ ap (can_follow last) (sym e)))

    pub enter_insert : k ≡ 2 → o ≡ picked (eqb n 0) 1 → b ≡ can_follow last 2 → m ≡ picked (not b) 1
        → record { invalid = t.invalid + o; inserts = t.inserts + n; all = t.all + n; kept = t.kept; clashes = t.clashes + m } ≡ tallied t (entry k n) (not (can_follow last k))
    enter_insert e p q s =
        (λ i. record { invalid = t.invalid + o; inserts = t.inserts + n; all = t.all + n; kept = sym (add-zero t.kept) i; clashes = t.clashes + m })
        ∙ count_one t (sound_entry (entry k n)) (not (can_follow last k)) o n 0 m refl (p ∙ invalid_known (λ z. absurd (omega arith)) (omega arith)) (rw (eq-eqb k 2 e)) (rw (ne_eqb k 1 (λ z. absurd (omega arith)))) (s ∙ ap (λ x. picked (not x) 1) (q ∙ ap (can_follow last) (sym e)))

    -- what adds to neither
    enter_neither : (k ≡ 1 → ⊥) → (k ≡ 2 → ⊥) → o ≡ invalid (entry k n) → b ≡ can_follow last k → m ≡ picked (not b) 1
        → record { invalid = t.invalid + o; inserts = t.inserts; all = t.all + n; kept = t.kept; clashes = t.clashes + m } ≡ tallied t (entry k n) (not (can_follow last k))
    enter_neither x y p q s =
        (λ i. record { invalid = t.invalid + o; inserts = sym (add-zero t.inserts) i; all = t.all + n; kept = sym (add-zero t.kept) i; clashes = t.clashes + m })
        ∙ count_one t (sound_entry (entry k n)) (not (can_follow last k)) o 0 0 m refl p (rw (ne_eqb k 2 y)) (rw (ne_eqb k 1 x)) (s ∙ ap (λ x. picked (not x) 1) q)

    pub enter_delete : k ≡ 3 → o ≡ picked (eqb n 0) 1 → b ≡ can_follow last 3 → m ≡ picked (not b) 1
        → record { invalid = t.invalid + o; inserts = t.inserts; all = t.all + n; kept = t.kept; clashes = t.clashes + m } ≡ tallied t (entry k n) (not (can_follow last k))
    enter_delete e p q s =
        enter_neither (λ z. absurd (omega arith)) (λ z. absurd (omega arith)) (p ∙ invalid_known (λ z. absurd (omega arith)) (omega arith)) (q ∙ ap (can_follow last) (sym e)) s

  pub enter_other : (t : Tally) (last m : ℕ) (b : Bool) → (k ≡ 1 → ⊥) → (k ≡ 2 → ⊥) → (k ≡ 3 → ⊥) → b ≡ can_follow last k → m ≡ picked (not b) 1
      → record { invalid = t.invalid + 1; inserts = t.inserts; all = t.all + n; kept = t.kept; clashes = t.clashes + m } ≡ tallied t (entry k n) (not (can_follow last k))
  enter_other t last m b x y w q s = enter_neither t last 1 m b x y (sym (ap (λ b. picked (not b) 1) (unknown (eqb k 0) refl))) q s
    where
      unknown : (c : Bool) → eqb k 0 ≡ c → sound_entry (entry k n) ≡ false
      unknown true e = sym (sound_low (eqb-true k 0 e))
      unknown false e = sym (sound_high (omega (arith, eqb-false k 0 e)))

pub picked_le : (b : Bool) (n : ℕ) → picked b n ≤ n
picked_le true n = omega arith
picked_le false n = omega arith

-- a sum is 0 where both parts are
pub none_both : (x y : ℕ) → eqb (x + y) 0 ≡ (eqb x 0 && eqb y 0)
none_both zero y = ap (λ z. eqb z 0) (zero-add y)
none_both (suc x) y = ne_eqb (suc x + y) 0 (λ z. absurd (omega arith)) ∙ sym (ap (λ b. b && eqb y 0) (ne_eqb (suc x) 0 (λ z. absurd (omega arith))))

-- ---- all entries

sum_last : (f : ℕ → ℕ) (i n : ℕ) → sum_from f i (suc n) ≡ sum_from f i n + f (i + n)
sum_last f i zero = omega (arith, ap f (add-zero i))
sum_last f i (suc n) = let e : suc i + n ≡ i + suc n = omega arith in omega (arith, sum_last f (suc i) n, ap f e)

-- one place more
sum_more : (f : ℕ → ℕ) (k : ℕ) → sum_from f 0 (k + 1) ≡ sum_from f 0 k + f k
sum_more f k = ap (sum_from f 0) (add-one k) ∙ sum_last f 0 k ∙ ap (λ j. sum_from f 0 k + f j) (zero-add k)

-- some places more
sum_join : (f : ℕ → ℕ) (i n m : ℕ) → sum_from f i (n + m) ≡ sum_from f i n + sum_from f (i + n) m
sum_join f i n zero = ap (sum_from f i) (add-zero n) ∙ sym (add-zero (sum_from f i n))
sum_join f i n (suc m) =
    let e : n + suc m ≡ suc (n + m) = omega arith in
    let h : i + (n + m) ≡ i + n + m = omega arith in
    ap (sum_from f i) e ∙ omega (arith, sum_last f i (n + m), sum_last f (i + n) m, sum_join f i n m, ap f h)

-- the places before k and at k have no more than all
pub sum_under : (f : ℕ → ℕ) (k n : ℕ) → k < n → sum_from f 0 k + f k ≤ sum_from f 0 n
sum_under f k n h =
    let e : n ≡ k + 1 + (n - (k + 1)) = omega arith in
    omega (arith, ap (sum_from f 0) e, sum_join f 0 (k + 1) (n - (k + 1)), sum_more f k)

pub tally_none : (r : List ℕ) → Tallied r 0 (record { invalid = 0; inserts = 0; all = 0; kept = 0; clashes = 0 })
tally_none r =
    record {
      invalids = refl;
      inserted = refl;
      counts = refl;
      retained = refl;
      neighbours = λ z. refl;
      few = omega arith;
      less = omega arith;
      fewer = omega arith;
      small = omega arith;
      close = omega arith;
    }

-- the neighbours before k and at k, as the code finds them
pub clashes_more : (r : List ℕ) (from k last kind p a : ℕ) (b : Bool) → 1 ≤ from → from ≤ k → last ≡ kind_at r (k - 1) → kind ≡ kind_at r k → b ≡ can_follow last kind → p ≡ picked (not b) 1 → a ≡ sum_from (clash_at r) (from - 1) (k - from)
    → a + p ≡ sum_from (clash_at r) (from - 1) (k + 1 - from)
clashes_more r from k last kind p a b l m e f g h i =
    let x : k ≡ suc (k - 1) = omega arith in
    let y : suc (k - from) ≡ k + 1 - from = omega arith in
    let z : k - 1 ≡ from - 1 + (k - from) = omega arith in
    ap₂ ◌+◌ i (h ∙ ap (λ x. picked (not x) 1) (g ∙ ap₂ can_follow e (f ∙ ap (kind_at r) x)) ∙ ap (clash_at r) z)
    ∙ sym (sum_last (clash_at r) (from - 1) (k - from))
    ∙ ap (sum_from (clash_at r) (from - 1)) y

pub clashes_none : (r : List ℕ) (from : ℕ) → 0 ≡ sum_from (clash_at r) (from - 1) (from - from)
clashes_none r from = let x : 0 ≡ from - from = omega arith in ap (sum_from (clash_at r) (from - 1)) x

-- those before k, and those from k on before m
pub clashes_join : (r : List ℕ) (k m a b : ℕ) → 1 ≤ k → k - 1 ≤ m - 1 → a ≡ sum_from (clash_at r) 0 (k - 1) → b ≡ sum_from (clash_at r) (k - 1) (m - k) → a + b ≡ sum_from (clash_at r) 0 (m - 1)
clashes_join r k m a b l h e f =
    let x : k - 1 + (m - k) ≡ m - 1 = omega arith in
    ap₂ ◌+◌ e (f ∙ ap (λ i. sum_from (clash_at r) i (m - k)) (sym (zero-add (k - 1))))
    ∙ sym (sum_join (clash_at r) 0 (k - 1) (m - k))
    ∙ ap (sum_from (clash_at r) 0) x

-- the operation at k, as the code finds it
module _ (r : List ℕ) (k kind count : ℕ) (q : kind ≡ kind_at r k) (c : count ≡ count_at r k) where
  pub more : (f : Entry → ℕ) {x : ℕ} → x ≡ sum_of f r k → x + f (entry kind count) ≡ sum_of f r (k + 1)
  more f e = ap₂ ◌+◌ e (ap₂ (λ x y. f (entry x y)) q c) ∙ sym (sum_more (λ j. f (entry_at r j)) k)

  more_none : (f : Entry → ℕ) (x : ℕ) → eqb x 0 ≡ eqb (sum_of f r k) 0 → eqb (x + f (entry kind count)) 0 ≡ eqb (sum_of f r (k + 1)) 0
  more_none f x e =
      none_both x (f (entry kind count))
      ∙ ap (λ b. b && eqb (f (entry kind count)) 0) e
      ∙ sym (none_both (sum_of f r k) (f (entry kind count)))
      ∙ ap (λ x. eqb x 0) (more f refl)

  tally_step : (t u : Tally) (b : Bool) → Tallied r k t → count < 65536 → u ≡ tallied t (entry kind count) b → (t.invalid + invalid (entry kind count) ≡ 0 → t.clashes + picked b 1 ≡ sum_from (clash_at r) 0 (k + 1 - 1)) → Tallied r (k + 1) u
  unfolding tallied
  tally_step t u b g h v w =
      let o = picked_le (not (sound_entry (entry kind count))) 1 in
      let i = picked_le (eqb kind 2) count in
      let j = picked_le (eqb kind 1) count in
      let m = picked_le b 1 in
      rw v (
      record {
        invalids = more_none invalid t.invalid g.invalids;
        inserted = more (of_kind 2) g.inserted;
        counts = more (λ e. e.count) g.counts;
        retained = more (of_kind 1) g.retained;
        neighbours = w;
        few = omega (arith, g.few);
        less = omega (arith, g.less);
        fewer = omega (arith, g.fewer);
        small = omega (arith, g.small);
        close = omega (arith, g.close);
      }
      )

  pub tally_more : (t u : Tally) (last : ℕ) (b : Bool) → Tallied r k t → count < 65536 → 1 ≤ k → last ≡ kind_at r (k - 1) → b ≡ can_follow last kind → u ≡ tallied t (entry kind count) (not b) → Tallied r (k + 1) u
  tally_more t u last b g h l e f v = tally_step t u (not b) g h v (λ z. clashes_more r 1 k last kind (picked (not b) 1) t.clashes b (omega arith) l e q f refl (g.neighbours (omega (arith, z))))

-- no operation, and the first one
module _ (r : List ℕ) where
  pub tally_empty : (n : ℕ) → n ≡ 0 → Tallied r n (record { invalid = 0; inserts = 0; all = 0; kept = 0; clashes = 0 })
  tally_empty n e = rw e (tally_none r)

  pub tally_first : (kind count : ℕ) (u : Tally) → kind ≡ kind_at r 0 → count ≡ count_at r 0 → count < 65536 → u ≡ tallied (record { invalid = 0; inserts = 0; all = 0; kept = 0; clashes = 0 }) (entry kind count) false → Tallied r 1 u
  tally_first kind count u q c h v = tally_step r 0 kind count q c (record { invalid = 0; inserts = 0; all = 0; kept = 0; clashes = 0 }) u false (tally_none r) h v (λ z. refl)

-- the kind before operation k, and 0 before the first
abbrev pub last_kind : List ℕ → ℕ → ℕ
last_kind r zero = 0
last_kind r (suc k) = kind_at r k

pub last_more : (r : List ℕ) (k kind : ℕ) → kind ≡ kind_at r k → kind ≡ last_kind r (k + 1)
last_more r k kind q = q ∙ ap (last_kind r) (sym (add-one k))

-- whatever can be may follow 0
first_follows : (last kind count : ℕ) → last ≡ 0 → invalid (entry kind count) ≡ 0 → can_follow last kind ≡ true
unfolding can_follow
first_follows last kind count e z =
    let f : kind ≡ 0 → invalid (entry kind count) ≡ 1 = λ y. ap (λ b. picked (not b) 1) (sym (sound_low kind count y)) in
    rw (e, ne_eqb 0 kind (λ y. absurd (omega (arith, z, f (sym y)))))

pub tally_next : (r : List ℕ) (k kind count : ℕ) → kind ≡ kind_at r k → count ≡ count_at r k → (t u : Tally) (last : ℕ) → Tallied r k t → count < 65536 → last ≡ last_kind r k → u ≡ tallied t (entry kind count) (not (can_follow last kind)) → Tallied r (k + 1) u
tally_next r zero kind count q c t u last g h e v =
    tally_step r 0 kind count q c t u (not (can_follow last kind)) g h v (λ z. omega (arith, z, g.neighbours (omega (arith, z)), ap (λ b. picked (not b) 1) (first_follows last kind count e (omega (arith, z)))))
tally_next r (suc k) kind count q c t u last g h e v =
    let x : k ≡ suc k - 1 = omega arith in
    tally_more r (suc k) kind count q c t u last (can_follow last kind) g h (omega arith) (e ∙ ap (kind_at r) x) refl v

-- ---- the neighbours' rule, on operations

-- nothing is counted where every test holds
pub holds_all : (b : Bool) (x : ℕ) → eqb (picked (not b) 1 + x) 0 ≡ (b && eqb x 0)
holds_all true x = ap (λ y. eqb y 0) (zero-add x)
holds_all false x = ne_eqb (1 + x) 0 (λ z. absurd (omega arith))

can_follow_is : (o p : Op ℕ) → can_follow (code o) (code p) ≡ follows (kind o) (kind p)
unfolding can_follow
can_follow_is (retain n) (retain m) = refl
can_follow_is (retain n) (insert y) = refl
can_follow_is (retain n) (delete m) = refl
can_follow_is (insert x) (retain m) = refl
can_follow_is (insert x) (insert y) = refl
can_follow_is (insert x) (delete m) = refl
can_follow_is (delete n) (retain m) = refl
can_follow_is (delete n) (insert y) = refl
can_follow_is (delete n) (delete m) = refl

code_of : (k n : ℕ) (t : List ℕ) → (k ≡ 1) ⊎ ((k ≡ 2) ⊎ (k ≡ 3)) → code (operation k n t) ≡ k
code_of k n t (inl p) = rw p
code_of k n t (inr (inl p)) = rw p
code_of k n t (inr (inr p)) = rw p

kinds_follow : (k l n m : ℕ) (t u : List ℕ) → T (sound_entry (entry k n)) → T (sound_entry (entry l m)) → can_follow k l ≡ follows (kind (operation k n t)) (kind (operation l m u))
kinds_follow k l n m t u a b =
    let p = code_of k n t (sound_kind k ((both (within 1 3 k) _).0 a).0) in
    let q = code_of l m u (sound_kind l ((both (within 1 3 l) _).0 b).0) in
    ap₂ can_follow (sym p) (sym q) ∙ can_follow_is (operation k n t) (operation l m u)

module _ (r : List ℕ) where
  chained_none : (i n : ℕ) (t : List ℕ) → T (all_of sound_entry (entries_from r i (suc n))) → eqb (sum_from (clash_at r) i n) 0 ≡ chained (operations (entries_from r i (suc n)) t)
  chained_none i zero t h = refl
  chained_none i (suc n) t h =
      let (a, h₁) = (both (sound_entry (entry_at r i)) (all_of sound_entry (entries_from r (suc i) (suc n)))).0 h in
      let (b, h₂) = (both (sound_entry (entry_at r (suc i))) (all_of sound_entry (entries_from r (suc (suc i)) n))).0 h₁ in
      let u = cond (eqb (kind_at r i) 2) (drop (count_at r i) t) t in
      holds_all (can_follow (kind_at r i) (kind_at r (suc i))) _
      ∙ ap₂ ◌&&◌ (kinds_follow (kind_at r i) (kind_at r (suc i)) (count_at r i) (count_at r (suc i)) t u a b) (chained_none (suc i) n u h₁)

pub none_clashes : (r : List ℕ) (n : ℕ) → n ≡ op_count_of r → T (all_of sound_entry (entries r)) → eqb (sum_from (clash_at r) 0 (n - 1)) 0 ≡ chained (byte_ops r)
unfolding byte_ops entries
none_clashes r n e s = go n e s
  where
    go : (m : ℕ) → m ≡ op_count_of r → T (all_of sound_entry (entries_from r 0 (op_count_of r))) → eqb (sum_from (clash_at r) 0 (m - 1)) 0 ≡ chained (operations (entries_from r 0 (op_count_of r)) (text_of r))
    go zero p h = rw (← p)
    go (suc m) p h =
        let q : suc m - 1 ≡ m = omega arith in
        ap (λ j. eqb (sum_from (clash_at r) 0 j) 0) q
        ∙ chained_none r 0 m (text_of r) (rw (← p) at h)
        ∙ ap (λ j. chained (operations (entries_from r 0 j) (text_of r))) p

-- where all neighbours may stand so, any two may
pub ordered_follow : (r : List ℕ) (n k : ℕ) → n ≡ op_count_of r → T (all_of sound_entry (entries r)) → chained (byte_ops r) ≡ true → k + 1 < n → can_follow (kind_at r k) (kind_at r (suc k)) ≡ true
ordered_follow r n k e s p h =
    go (can_follow (kind_at r k) (kind_at r (suc k))) refl (sum_under (clash_at r) k (n - 1) (omega arith)) (eqb-true (sum_from (clash_at r) 0 (n - 1)) 0 (none_clashes r n e s ∙ p))
  where
    go : (b : Bool) → can_follow (kind_at r k) (kind_at r (suc k)) ≡ b → sum_from (clash_at r) 0 k + picked (not b) 1 ≤ sum_from (clash_at r) 0 (n - 1) → sum_from (clash_at r) 0 (n - 1) ≡ 0 → b ≡ true
    go true q l z = refl
    go false q l z = absurd (omega arith)

pub chars_part : (n m : ℕ) (t : List ℕ) → number_of_chars (take (n + m) t) ≡ number_of_chars (take n t) + number_of_chars (take m (drop n t))
chars_part n m t = ap number_of_chars (take-add n m t) ∙ num_append (take n t) (take m (drop n t))
