-- The whole list, value by value.
use Rattle.std.specs.Prelude.{◌≡◌, ℕ, ◌+◌, ◌-◌, ◌<◌, ◌≤◌, Bool, true, false, leb, List, [], ◌∷◌, ◌++◌, length, take, drop, set}
use native.Mathlib.Nat.{add-zero}
use native.Mathlib.Omega.{arith}
use mathlib.Core.Path.{refl, sym, ap, ap₂, ◌∙◌}
use mathlib.Core.List.{append_assoc}
use lib.ListN.{length-append, length-set}
use borrow.Author.Tests.{leb-true, leb-false}
use Rattle.buffers.specs.InnerOver.{over}
use Rattle.characters.specs.Text.{Char, chars}
use Rattle.characters.proofs.Texts.{bytes_chars}
use Rattle.edits.specs.Op.{Op, retain, insert, delete}
use Rattle.edits.specs.Sequence.{Seq}
use Rattle.record.specs.declared.inner.Kind.{Kind}
use Rattle.record.specs.declared.inner.Kind.TheVariants.{Retain, Insert, Delete}
use Rattle.record.specs.Kinds.{number_of}
use Rattle.record.proofs.Cases.{number_retain, number_insert, number_delete}
use Rattle.record.specs.Layout.{op_count_of, kind_at, count_at, start_of_text}
use Rattle.record.specs.Record.{record_fault, ops}
use Rattle.record.specs.InnerFront.{Place, byte_ops_left, ops_left}
use Rattle.record.proofs.Walks.{entries_next}
use Rattle.reader.proofs.Fronts.{Begins, begins_none, begins_retain, begins_insert, begins_delete, begins_well, load_room, place_start, ops_start}
use Rattle.json_lists.specs.Written.{escaped_all, value, others, written}
use Rattle.json_write.specs.declared.inner.Progress.{Progress}
use Rattle.json_write_text.specs.InnerPutting.{Puts, Goes, quoted}
use Rattle.json_write.specs.InnerWriting.{negative, value_of, bytes_of_text, marks_behind, left, Steps}
use Rattle.json_write_text.proofs.Putting.{puts_one, puts_join, puts_long, goes_start, goes_on, goes_end}

-- ---- the operation at k, as the code finds it

-- the operations from k on begin with one of this value
record Front (r : List ℕ) (k from : ℕ) (kind : Kind) (count : ℕ) : Type 0 where
  pub op : Op Char
  pub begins : Begins r k from op (from + bytes_of_text kind count)
  pub value_is : value op ≡ value_of kind count (drop from r)
  pub inside : from + bytes_of_text kind count ≤ length r

module _ (r : List ℕ) (n k from : ℕ) (kind : Kind) (count : ℕ) (e : n ≡ op_count_of r) (p : Place r k from) (h : k < n) (q : number_of kind ≡ kind_at r k) (c : count ≡ count_at r k) (small : count < 65536) where
  front_retain : kind ≡ Retain → Front r k from kind count
  unfolding value value_of
  front_retain y =
      let t : from ≡ from + bytes_of_text kind count = rw y (sym (add-zero from)) in
      record {
        op = retain count;
        begins = rw (← t) (begins_retain r n k from (number_of kind) count e p h q c small (number_retain kind y));
        value_is = rw y;
        inside = omega (arith, t, p.room);
      }

  front_insert : kind ≡ Insert → Front r k from kind count
  unfolding value value_of quoted
  front_insert z =
      let t : from + count ≡ from + bytes_of_text kind count = rw z in
      let u = take (from + count - from) (drop from r) in
      let l : from + count - from ≡ count = omega arith in
      let i = number_insert kind z in
      record {
        op = insert (chars u);
        begins = rw (← t) (begins_insert r n k from (number_of kind) count e p h q c small i);
        value_is =
            ap (λ v. 0x22 ∷ (escaped_all v ++ (0x22 ∷ []))) (bytes_chars u (begins_well r n k from (number_of kind) count e p h q c small i) ∙ ap (λ m. take m (drop from r)) l)
            ∙ rw z;
        inside = omega (arith, t, load_room r n k from (number_of kind) count e p h q c small i);
      }

  front_delete : kind ≡ Delete → Front r k from kind count
  unfolding value value_of negative
  front_delete y =
      let t : from ≡ from + bytes_of_text kind count = rw y (sym (add-zero from)) in
      let d = number_delete kind y in
      record {
        op = delete count;
        begins = rw (← t) (begins_delete r n k from (number_of kind) count e p h q c small (λ x. absurd (omega arith)) (λ x. absurd (omega arith)));
        value_is = rw y;
        inside = omega (arith, t, p.room);
      }

  front : Front r k from kind count
  front = go kind refl
    where
      go : (a : Kind) → kind ≡ a → Front r k from kind count
      go Retain y = front_retain y
      go Insert y = front_insert y
      go Delete y = front_delete y

  pub value_inside : from + bytes_of_text kind count ≤ length r
  value_inside = front.inside

  -- behind the last value the list ends
  behind : (to : ℕ) → others (ops_left r (k + 1) to) ≡ marks_behind (leb n (k + 1)) ∷ left (ops_left r (k + 1) to)
  unfolding others left ops_left byte_ops_left
  behind to = go (leb n (k + 1)) refl
    where
      go : (b : Bool) → leb n (k + 1) ≡ b → others (ops_left r (k + 1) to) ≡ marks_behind b ∷ left (ops_left r (k + 1) to)
      go true y = rw (begins_none r n (k + 1) to e (leb-true n (k + 1) y))
      go false y = rw (entries_next r (k + 1) (omega (arith, leb-false n (k + 1) y)))

  ahead : left (ops_left r k from) ≡ value_of kind count (drop from r) ++ (marks_behind (leb n (k + 1)) ∷ left (ops_left r (k + 1) (from + bytes_of_text kind count)))
  unfolding left
  ahead = ap left front.begins.has ∙ ap₂ ◌++◌ front.value_is (behind (from + bytes_of_text kind count))

  module _ (o : List ℕ) (at : ℕ) (room : at + length (left (ops_left r k from)) ≤ length o) where
    ahead_long : at + length (value_of kind count (drop from r)) + 1 ≤ length o
    ahead_long =
        omega
        (arith, ap length ahead, length-append (value_of kind count (drop from r)) (marks_behind (leb n (k + 1)) ∷ left (ops_left r (k + 1) (from + bytes_of_text kind count))))

    pub value_room : at + length (value_of kind count (drop from r)) ≤ length o
    value_room = omega (arith, ahead_long)

    module _ (end : ℕ) (o₁ : List ℕ) (w : Puts at (value_of kind count (drop from r)) o end o₁) where
      pub mark_room : end < length o₁
      mark_room = omega (arith, ahead_long, w.ends, puts_long w)

      steps : (m t : ℕ) → m ≡ marks_behind (leb n (k + 1)) → t ≡ bytes_of_text kind count
          → Steps r (record { k = k; from = from; at = at }) o (record { k = k + 1; from = from + t; at = end + 1 }) (set o₁ end m)
      steps m t pm pt =
          let xs = value_of kind count (drop from r) in
          let ys = left (ops_left r (k + 1) (from + bytes_of_text kind count)) in
          rw pt
          (record {
            place = front.begins.place;
            next = refl;
            goes = goes_on at _ o at (xs ++ (m ∷ [])) ys o (end + 1) (set o₁ end m) (rw (ahead ∙ ap (λ b. xs ++ (b ∷ ys)) (sym pm) ∙ sym (append_assoc xs (m ∷ []) ys)) (goes_start at _ o)) (puts_join at end (end + 1) xs (m ∷ []) o o₁ (set o₁ end m) w (puts_one end m o₁));
          })

pub next_steps : (r : List ℕ) (n : ℕ) (s : Progress) (kind : Kind) (count : ℕ) → n ≡ op_count_of r → Place r s.k s.from → s.k < n → number_of kind ≡ kind_at r s.k → count ≡ count_at r s.k → count < 65536
    → (o : List ℕ) → s.at + length (left (ops_left r s.k s.from)) ≤ length o
    → (end : ℕ) (o₁ : List ℕ) → Puts s.at (value_of kind count (drop s.from r)) o end o₁
    → (m t : ℕ) → m ≡ marks_behind (leb n (s.k + 1)) → t ≡ bytes_of_text kind count
    → Steps r s o (record { k = s.k + 1; from = s.from + t; at = end + 1 }) (set o₁ end m)
next_steps r n s kind count e p h q c small o room end o₁ w m t pm pt = steps r n s.k s.from kind count e p h q c small o s.at room end o₁ w m t pm pt

-- ---- the list

others_some : (s : Seq) → 1 ≤ length (others s)
unfolding others
others_some [] = omega arith
others_some (o ∷ s) = omega arith

written_some : (s : Seq) → 2 ≤ length (written s)
unfolding written
written_some [] = omega arith
written_some (o ∷ s) = omega (arith, length-append (value o) (others s), others_some s)

-- what is left of it at `s` over o comes to what is left at `u` over o₁
pub record ListLeft (r : List ℕ) (s : Progress) (o : List ℕ) (u : Progress) (o₁ : List ℕ) : Type 0 where
  pub place : Place r u.k u.from
  pub goes : Goes s.at (left (ops_left r s.k s.from)) o u.at (left (ops_left r u.k u.from)) o₁

module _ (r : List ℕ) (n : ℕ) (z : record_fault r ≡ 0) (e : n ≡ op_count_of r) (o : List ℕ) where
  module _ (room : length (written (ops r)) ≤ length o) where
    pub first_room : 0 < length o
    first_room = omega (arith, written_some (ops r))

    pub second_room : 1 < length (set o 0 0x5B)
    second_room = simp length-set (omega (arith, written_some (ops r)))

  -- no operations
  pub list_none : n ≡ 0 → set (set o 0 0x5B) 1 0x5D ≡ over 0 (written (ops r)) o
  unfolding written
  list_none h =
      let w : written (ops r) ≡ 0x5B ∷ 0x5D ∷ [] = ap written (sym (ops_start r n (start_of_text n) z e refl) ∙ begins_none r n 0 (start_of_text n) e (omega arith)) in
      (puts_join 0 1 2 (0x5B ∷ []) (0x5D ∷ []) o (set o 0 0x5B) (set (set o 0 0x5B) 1 0x5D) (puts_one 0 0x5B o) (puts_one 1 0x5D (set o 0 0x5B))).wrote
      ∙ ap (λ l. over 0 l o) (sym w)

  -- the operations behind the first bracket
  module _ (h : n ≡ 0 → ⊥) (from : ℕ) (p : from ≡ start_of_text n) where
    opened : written (ops r) ≡ 0x5B ∷ left (ops_left r 0 from)
    unfolding written left ops_left byte_ops_left
    opened = ap written (sym (ops_start r n from z e p)) ∙ rw (entries_next r 0 (omega arith))

    pub list_start : ListLeft r (record { k = 0; from = from; at = 1 }) (set o 0 0x5B) (record { k = 0; from = from; at = 1 }) (set o 0 0x5B)
    list_start = record { place = place_start r n from z e p; goes = goes_start 1 (left (ops_left r 0 from)) (set o 0 0x5B) }

    module _ (u : Progress) (o₁ : List ℕ) (g : ListLeft r (record { k = 0; from = from; at = 1 }) (set o 0 0x5B) u o₁) where
      pub left_room : length (written (ops r)) ≤ length o → u.at + length (left (ops_left r u.k u.from)) ≤ length o₁
      left_room l = omega (arith, g.goes.ends, g.goes.long, length-set o 0 0x5B, ap length opened)

      pub list_end : n ≤ u.k → o₁ ≡ over 0 (written (ops r)) o
      unfolding left
      list_end l =
          (puts_join 0 1 u.at (0x5B ∷ []) (left (ops_left r 0 from)) o (set o 0 0x5B) o₁ (puts_one 0 0x5B o) (goes_end 1 (left (ops_left r 0 from)) (set o 0 0x5B) u.at _ o₁ g.goes (ap left (begins_none r n u.k u.from e l)))).wrote
          ∙ ap (λ l. over 0 l o) (sym opened)

pub list_more : (r : List ℕ) (s : Progress) (o : List ℕ) (u : Progress) (o₁ : List ℕ) (v : Progress) (o₂ : List ℕ) → ListLeft r s o u o₁ → Steps r u o₁ v o₂ → ListLeft r s o v o₂
list_more r s o u o₁ v o₂ g t =
    record {
      place = t.place;
      goes = record { ends = t.goes.ends ∙ g.goes.ends; same = t.goes.same ∙ g.goes.same; long = t.goes.long ∙ g.goes.long };
    }

pub same_long : (r : List ℕ) (s : Progress) (o : List ℕ) (u : Progress) (o₁ : List ℕ) → ListLeft r s (set o 0 0x5B) u o₁ → length o₁ ≡ length o
same_long r s o u o₁ g = g.goes.long ∙ length-set o 0 0x5B
