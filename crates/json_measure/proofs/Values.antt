-- How long a list is.
use Rattle.std.specs.Prelude.{◌≡◌, ℕ, zero, suc, ◌+◌, Bool, true, false, cond, eqb, List, [], ◌∷◌, map, length, take}
use native.Mathlib.Omega.{arith}
use mathlib.Core.Path.{refl, sym, ap, ◌∙◌}
use lib.ListN.{length-append}
use borrow.Author.Tests.{eq-eqb, ne_eqb}
use Rattle.characters.specs.Text.{Char}
use Rattle.edits.specs.Op.{Op, retain, insert, delete, total}
use Rattle.edits.specs.Sequence.{Seq}
use Rattle.record.specs.Layout.{op_count_of, kind_at, count_at}
use Rattle.record.specs.Record.{entry_at, entries_from, entries, operations, text_of, byte_ops, in_bytes, inserted, text, record_fault, ops}
use Rattle.record.proofs.Records.{in_bytes_ops, in_bytes_text, ops_length}
use Rattle.entries.specs.InnerTally.{entry, sum_from, sum_of}
use Rattle.entries.proofs.Tallying.{more}
use Rattle.json_lists.specs.Written.{decimal, escaped_all, value, others, written}
use Rattle.json_lists.proofs.Lengths.{escaped_all_append}
use Rattle.json_measure.specs.InnerSizes.{frame, entry_frame, marks_of}

-- ---- one entry

module _ (kind count d : ℕ) (e : d ≡ length (decimal count)) where
  pub frame_retain : kind ≡ 1 → d ≡ entry_frame (entry kind count)
  unfolding frame
  frame_retain z = rw (eq-eqb kind 1 z) e

  pub frame_delete : (kind ≡ 1 → ⊥) → (kind ≡ 2 → ⊥) → d + 1 ≡ entry_frame (entry kind count)
  unfolding frame
  frame_delete y z = rw (ne_eqb kind 1 y, ne_eqb kind 2 z) (ap (λ k. k + 1) e)

pub frame_insert : (kind count : ℕ) → (kind ≡ 1 → ⊥) → kind ≡ 2 → 2 ≡ entry_frame (entry kind count)
unfolding frame
frame_insert kind count y z = rw (ne_eqb kind 1 y, eq-eqb kind 2 z)

pub marks_some : (n : ℕ) → (n ≡ 0 → ⊥) → n + 1 ≡ marks_of n
marks_some zero h = absurd (h refl)
marks_some (suc n) h = refl

-- ---- all entries

pub frames_more : (r : List ℕ) (k kind count f sum : ℕ) → kind ≡ kind_at r k → count ≡ count_at r k → f ≡ entry_frame (entry kind count) → sum ≡ sum_of entry_frame r k → sum + f ≡ sum_of entry_frame r (k + 1)
frames_more r k kind count f sum q c e g = ap (λ x. sum + x) e ∙ more r k kind count q c entry_frame g

-- whatever the text
frames_sum : (r : List ℕ) (i n : ℕ) (t : List ℕ) → sum_from (λ k. entry_frame (entry_at r k)) i n ≡ total frame (operations (entries_from r i n) t)
unfolding frame
frames_sum r i zero t = refl
frames_sum r i (suc n) t = go (eqb (kind_at r i) 1) (eqb (kind_at r i) 2) (count_at r i) (frames_sum r (suc i) n _)
  where
    go : (a b : Bool) (c : ℕ) {x y : ℕ} → x ≡ y → frame (cond a (retain c) (cond b (insert (take c [])) (delete c))) + x ≡ frame (cond a (retain c) (cond b (insert (take c t)) (delete c))) + y
    go true b c h = omega arith
    go false true c h = omega arith
    go false false c h = omega arith

-- ---- a list

abbrev bytes_of : Op Char → ℕ
bytes_of o = length (value o)

value_bytes : (o : Op Char) → bytes_of o ≡ frame (in_bytes o) + length (escaped_all (inserted (in_bytes o)))
unfolding value in_bytes frame
value_bytes (retain n) = omega arith
value_bytes (insert s) = simp length-append (omega arith)
value_bytes (delete n) = omega arith

values_bytes : (s : Seq) → total bytes_of s ≡ total frame (map in_bytes s) + length (escaped_all (text (map in_bytes s)))
values_bytes [] = refl
values_bytes (o ∷ s) =
    let x = inserted (in_bytes o) in
    let y = text (map in_bytes s) in
    omega (arith, value_bytes o, values_bytes s, ap length (escaped_all_append x y), length-append (escaped_all x) (escaped_all y))

others_bytes : (s : Seq) → length (others s) ≡ 1 + length s + total bytes_of s
unfolding others
others_bytes [] = refl
others_bytes (o ∷ s) = simp length-append (omega (arith, others_bytes s))

written_bytes : (s : Seq) → length (written s) ≡ marks_of (length s) + total bytes_of s
unfolding written
written_bytes [] = refl
written_bytes (o ∷ s) = simp length-append (omega (arith, others_bytes s))

-- of a record that was checked
module _ (r : List ℕ) (z : record_fault r ≡ 0) (n : ℕ) (e : n ≡ op_count_of r) (m f b : ℕ) (pm : m ≡ marks_of n) (pf : f ≡ sum_of entry_frame r n) (pb : b ≡ length (escaped_all (text_of r))) where
  pub list_bytes : m + f + b ≡ length (written (ops r))
  unfolding byte_ops entries
  list_bytes =
      let x : f ≡ total frame (byte_ops r) = pf ∙ frames_sum r 0 n (text_of r) ∙ ap (λ k. total frame (operations (entries_from r 0 k) (text_of r))) e in
      let y : m ≡ marks_of (length (ops r)) = pm ∙ ap marks_of (e ∙ sym (ops_length r z)) in
      omega
      (arith, written_bytes (ops r), values_bytes (ops r), ap (total frame) (in_bytes_ops r z), ap (λ q. length (escaped_all (text q))) (in_bytes_ops r z), ap (λ t. length (escaped_all t)) (in_bytes_text r z))
