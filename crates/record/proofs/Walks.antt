-- Going through a record: the operations from k on, and what the next one adds.
use Prim.Native.Nat.{ℕ, suc, ◌+◌, ◌-◌, ◌≤◌, ◌<◌, zero}
use native.Mathlib.Numerals.{add-one}
use native.Mathlib.Omega.{arith}
use mathlib.Core.Path.{◌≡◌, sym, ap, ◌∙◌, refl, ap₂}
use mathlib.Core.Bool.{cond, Bool, true, false}
use mathlib.Core.List.{List, [], ◌∷◌}
use lib.Dec.{T, eqb, leb→le}
use lib.ListN.{take, drop}
use lib.Seq.{drop-drop, take-nil, take-take}
use borrow.Author.Tests.{eq-eqb, ne_eqb}
use native.Mathlib.Nat.{zero-add, suc-add, sub-zero, add-zero}
use Rattle.buffers.specs.Lists.{all_of}
use Rattle.buffers.proofs.Tests.{both}
use Rattle.characters.specs.Form.{within}
use Rattle.characters.proofs.Leads.{within_bounds}
use Rattle.edits.specs.Op.{retain, insert, delete}
use Rattle.record.specs.Layout.{op_count_of, kind_at, count_at, text_bytes_of, start_of_text}
use Rattle.record.specs.Record.{entry_at, entries_from, operation, operations, sound_entry, insert_bytes, Entry, entries, text_of, byte_ops}
use Rattle.record.specs.InnerFront.{entries_left, byte_ops_left}

module _ (r : List ℕ) (k : ℕ) where
  pub entries_next : k < op_count_of r → entries_left r k ≡ entry_at r k ∷ entries_left r (k + 1)
  entries_next h =
      let e : op_count_of r - k ≡ suc (op_count_of r - (k + 1)) = omega arith in
      ap (entries_from r k) e ∙ ap (λ j. entry_at r k ∷ entries_from r j (op_count_of r - (k + 1))) (sym (add-one k))

  pub entries_done : op_count_of r ≤ k → entries_left r k ≡ []
  entries_done h = let e : op_count_of r - k ≡ 0 = omega arith in ap (entries_from r k) e

  pub left_done : (at : ℕ) → op_count_of r ≤ k → byte_ops_left r k at ≡ []
  unfolding byte_ops_left
  left_done at h = rw (entries_done h)

  -- the operation at k
  module _ (h : k < op_count_of r) where
    left_next : (at : ℕ) → byte_ops_left r k at ≡ operation (kind_at r k) (count_at r k) (drop at r) ∷ operations (entries_left r (k + 1)) (cond (eqb (kind_at r k) 2) (drop (count_at r k) (drop at r)) (drop at r))
    unfolding byte_ops_left
    left_next at = ap (λ es. operations es (drop at r)) (entries_next h)

    pub left_retain : (at : ℕ) → kind_at r k ≡ 1 → byte_ops_left r k at ≡ retain (count_at r k) ∷ byte_ops_left r (k + 1) at
    unfolding byte_ops_left
    left_retain at e = left_next at ∙ rw (eq-eqb (kind_at r k) 1 e, ne_eqb (kind_at r k) 2 (λ z. absurd (omega arith)))

    pub left_insert : (at : ℕ) → kind_at r k ≡ 2 → byte_ops_left r k at ≡ insert (take (count_at r k) (drop at r)) ∷ byte_ops_left r (k + 1) (at + count_at r k)
    unfolding byte_ops_left
    left_insert at e = left_next at ∙ rw (ne_eqb (kind_at r k) 1 (λ z. absurd (omega arith)), eq-eqb (kind_at r k) 2 e, drop-drop)

    pub left_delete : (at : ℕ) → (kind_at r k ≡ 1 → ⊥) → (kind_at r k ≡ 2 → ⊥) → byte_ops_left r k at ≡ delete (count_at r k) ∷ byte_ops_left r (k + 1) at
    unfolding byte_ops_left
    left_delete at p q = left_next at ∙ rw (ne_eqb (kind_at r k) 1 p, ne_eqb (kind_at r k) 2 q)

    pub left_other : (at : ℕ) → (kind_at r k ≡ 2 → ⊥) → drop 1 (byte_ops_left r k at) ≡ byte_ops_left r (k + 1) at
    unfolding byte_ops_left
    left_other at q = ap (drop 1) (left_next at) ∙ rw (ne_eqb (kind_at r k) 2 q)

    pub inserts_more : kind_at r k ≡ 2 → insert_bytes (entries_left r k) ≡ count_at r k + insert_bytes (entries_left r (k + 1))
    inserts_more e = ap insert_bytes (entries_next h) ∙ rw (eq-eqb (kind_at r k) 2 e)

    pub inserts_same : (kind_at r k ≡ 2 → ⊥) → insert_bytes (entries_left r k) ≡ insert_bytes (entries_left r (k + 1))
    inserts_same e = ap insert_bytes (entries_next h) ∙ rw (ne_eqb (kind_at r k) 2 e)

    pub record SoundNext : Type 0 where
      pub least : 1 ≤ kind_at r k
      pub most : kind_at r k ≤ 3
      pub some : 1 ≤ count_at r k
      pub rest : T (all_of sound_entry (entries_left r (k + 1)))

    pub sound_next : T (all_of sound_entry (entries_left r k)) → SoundNext
    sound_next s =
        let (a, b) = (both (sound_entry (entry_at r k)) (all_of sound_entry (entries_left r (k + 1)))).0 (rw (entries_next h) at s) in
        let (c, d) = (both (within 1 3 (kind_at r k)) _).0 a in
        let (e, f) = within_bounds 1 3 (kind_at r k) c in
        record { least = e; most = f; some = leb→le 1 (count_at r k) d; rest = b }

pub drop_take : (n m : ℕ) (t : List ℕ) → drop n (take (n + m) t) ≡ take m (drop n t)
drop_take zero m t = ap (λ j. take j t) (zero-add m)
drop_take (suc n) m [] = ap (λ j. drop (suc n) (take j [])) (suc-add n m) ∙ sym (take-nil m)
drop_take (suc n) m (x ∷ t) = ap (λ j. drop (suc n) (take j (x ∷ t))) (suc-add n m) ∙ drop_take n m t

-- inserts read no byte behind their text
operations_take : (es : List Entry) (m : ℕ) (t : List ℕ) → insert_bytes es ≤ m → operations es (take m t) ≡ operations es t
operations_take [] m t h = refl
operations_take (e ∷ es) m t h = go (eqb e.kind 2) refl h (λ m u h. operations_take es m u h)
  where
    go : (b : Bool) → eqb e.kind 2 ≡ b → cond b (e.count + insert_bytes es) (insert_bytes es) ≤ m
        → ((m : ℕ) (u : List ℕ) → insert_bytes es ≤ m → operations es (take m u) ≡ operations es u) → operations (e ∷ es) (take m t) ≡ operations (e ∷ es) t
    go true p h ih =
        let q : e.count + (m - e.count) ≡ m = omega arith in
        let d : drop e.count (take m t) ≡ take (m - e.count) (drop e.count t) =
        ap (λ j. drop e.count (take j t)) (sym q) ∙ drop_take e.count (m - e.count) t in
        rw (p, take-take e.count m t (omega arith), d, ih (m - e.count) (drop e.count t) (omega arith))
    go false p h ih = rw (p, ih m t h)

-- the whole record is what lies ahead at its start
pub left_all : (r : List ℕ) → insert_bytes (entries r) ≡ text_bytes_of r → byte_ops_left r 0 (start_of_text (op_count_of r)) ≡ byte_ops r
unfolding byte_ops_left byte_ops entries text_of
left_all r e =
    ap (λ n. operations (entries_from r 0 n) (drop (start_of_text (op_count_of r)) r)) (sub-zero (op_count_of r))
    ∙ sym (operations_take (entries_from r 0 (op_count_of r)) (text_bytes_of r) (drop (start_of_text (op_count_of r)) r) (omega arith))

-- the inserts of the operations before k and of those from k on are all of them
inserts_split : (r : List ℕ) (i a b : ℕ) → insert_bytes (entries_from r i (a + b)) ≡ insert_bytes (entries_from r i a) + insert_bytes (entries_from r (i + a) b)
inserts_split r i zero b = ap₂ (λ n j. insert_bytes (entries_from r j n)) (zero-add b) (sym (add-zero i)) ∙ sym (zero-add _)
inserts_split r i (suc a) b =
    let e : suc i + a ≡ i + suc a = omega arith in
    ap (λ n. insert_bytes (entries_from r i n)) (suc-add a b)
    ∙ go (eqb (kind_at r i) 2) (insert_bytes (entries_from r (suc i) a)) (insert_bytes (entries_from r (i + suc a) b)) (inserts_split r (suc i) a b ∙ ap (λ j. insert_bytes (entries_from r (suc i) a) + insert_bytes (entries_from r j b)) e)
  where
    go : (t : Bool) {x : ℕ} (y z : ℕ) → x ≡ y + z → cond t (count_at r i + x) x ≡ cond t (count_at r i + y) y + z
    go true y z h = omega arith
    go false y z h = h

pub inserts_all : (r : List ℕ) (k : ℕ) → k ≤ op_count_of r → insert_bytes (entries_from r 0 k) + insert_bytes (entries_left r k) ≡ insert_bytes (entries r)
unfolding entries
inserts_all r k h =
    let e : k + (op_count_of r - k) ≡ op_count_of r = omega arith in
    ap (λ j. insert_bytes (entries_from r 0 k) + insert_bytes (entries_from r j (op_count_of r - k))) (sym (zero-add k))
    ∙ sym (inserts_split r 0 k (op_count_of r - k))
    ∙ ap (λ n. insert_bytes (entries_from r 0 n)) e
