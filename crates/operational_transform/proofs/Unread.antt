-- Bytes behind a record's own contents aren't read by the calls: with any others in their place, every call gives the same answer
-- and leaves the same outputs.
use Prim.Native.Nat.{ℕ}
use mathlib.Core.Path.{◌≡◌}
use mathlib.Core.Bool.{◌&&◌}
use mathlib.Core.List.{List}
use lib.Dec.{eqb}
use Rattle.characters.specs.Chars.{number_of_chars}
use Rattle.characters.specs.Form.{is_well_formed}
use Rattle.characters.specs.Text.{chars, bytes}
use Rattle.characters.specs.Order.{order}
use Rattle.answers.specs.Answer.{or_else, needs}
use Rattle.edits.specs.Op.{retain, insert, delete}
use Rattle.record.specs.Record.{encode, fits}
use Rattle.edits.specs.Build.{extend}
use Rattle.edits.specs.Apply.{apply}
use Rattle.edits.specs.Compose.{compose}
use Rattle.edits.specs.Transform.{transform}
use Rattle.edits.specs.Invert.{invert}
use Rattle.answers.specs.Output.{writing, writing_both}
use Rattle.operational_transform.specs.Calls.{deliver, retain_call, delete_call, insert_call, apply_call, compose_call, transform_call, invert_call}
use Rattle.record.proofs.Unread.{Alike, same_seq}

module _ (r s : List ℕ) (a : Alike r s) where
  pub retain_unread : (n : ℕ) (out : List ℕ) → retain_call r n out ≡ retain_call s n out
  unfolding retain_call
  retain_unread n out = λ i. deliver (a.faults i) (extend (same_seq a i) (retain n)) out

  pub delete_unread : (n : ℕ) (out : List ℕ) → delete_call r n out ≡ delete_call s n out
  unfolding delete_call
  delete_unread n out = λ i. deliver (a.faults i) (extend (same_seq a i) (delete n)) out

  pub insert_unread : (t out : List ℕ) → insert_call r t out ≡ insert_call s t out
  unfolding insert_call
  insert_unread t out = λ i. deliver (or_else (a.faults i) (needs (is_well_formed t) 3 0)) (extend (same_seq a i) (insert (chars t))) out

  -- ---- apply and invert
  pub apply_unread : (t out : List ℕ) → apply_call r t out ≡ apply_call s t out
  unfolding apply_call
  apply_unread t out =
      λ i. writing (or_else (or_else (a.faults i) (needs (is_well_formed t) 3 0)) (needs (eqb (number_of_chars t) (a.bases i)) 8 0)) (bytes (apply (same_seq a i) (chars t))) out

  pub invert_unread : (t out : List ℕ) → invert_call r t out ≡ invert_call s t out
  unfolding invert_call
  invert_unread t out =
      λ i. deliver (or_else (or_else (a.faults i) (needs (is_well_formed t) 3 0)) (needs (eqb (number_of_chars t) (a.bases i)) 8 0)) (invert (same_seq a i) (chars t)) out

-- ---- compose and transform
module _ (a b c d : List ℕ) (p : Alike a c) (q : Alike b d) where
  pub compose_unread : (out : List ℕ) → compose_call a b out ≡ compose_call c d out
  unfolding compose_call
  compose_unread out =
      λ i. deliver (or_else (or_else (p.faults i) (q.faults i)) (needs (eqb (p.targets i) (q.bases i)) 8 0)) (compose (same_seq p i) (same_seq q i)) out

  pub transform_unread : (x y : List ℕ) → transform_call a b x y ≡ transform_call c d x y
  unfolding transform_call
  transform_unread x y =
      λ i.
      let s = transform order (same_seq p i) (same_seq q i) in
      writing_both
      (or_else (or_else (p.faults i) (q.faults i)) (needs (eqb (p.bases i) (q.bases i)) 8 (needs (fits s.left && fits s.right) 9 0)))
      (encode s.left) (encode s.right) x y
