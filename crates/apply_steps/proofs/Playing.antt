-- Playing operation by operation.
use Rattle.std.specs.Prelude.{◌≡◌, ℕ, ◌+◌, ◌-◌, ◌<◌, ◌≤◌, T, List, [], ◌++◌, length, take, drop}
use Prim.Native.Nat.{zero-le}
use native.Mathlib.Omega.{arith}
use mathlib.Core.Path.{refl, sym, ap, ap₂, ◌∙◌}
use lib.ListN.{length-append, length-drop}
use lib.Seq.{drop-drop, take-append_seam, drop-append_seam, length-take-le}
use native.Mathlib.Nat.{add-zero}
use Rattle.buffers.specs.InnerOver.{over}
use Rattle.buffers.proofs.Over.{over_nil}
use Rattle.characters.specs.Text.{Char, chars, bytes}
use Rattle.characters.specs.InnerPlaces.{Passes}
use Rattle.characters.specs.Chars.{number_of_chars}
use Rattle.characters.specs.Form.{is_well_formed}
use Rattle.characters.proofs.Texts.{bytes_append, bytes_chars, chars_length}
use Rattle.characters.proofs.Places.{stays_there}
use Rattle.characters.proofs.Widths.{bytes_most}
use Rattle.edits.specs.Op.{Op, takes, retain, insert, delete}
use Rattle.edits.specs.Apply.{writes, apply}
use Rattle.edits.proofs.Theorems.{apply_length}
use Rattle.record.specs.InnerFront.{ops_left}
use Rattle.record.specs.Layout.{op_count_of, kind_at, count_at, text_bytes_of, base_of, start_of_text}
use Rattle.record.specs.Record.{ops, record_fault}
use Rattle.record.proofs.Records.{ops_text, ops_base, ops_good}
use Rattle.record.proofs.Sequences.{fits_limits, apply_most}
use Rattle.reader.proofs.Fronts.{Begins, begins_none, begins_retain, begins_delete, load_room, begins_well, begins_insert, ops_start}
use Rattle.apply_steps.specs.declared.inner.Progress.{Progress}
use Rattle.apply_steps.specs.InnerSteps.{played, Stage, Steps, TakesRest}
use Rattle.apply_steps.proofs.Passing.{along_next, along_start, along_room, along_rest}

-- ---- one step

-- the operations ahead begin with o, whose characters the text has up to `end`
module _ (r t : List ℕ) (s : Progress) (g : Stage r t s) (o : Op Char) (to end : ℕ) (b : Begins r s.k s.from o to) (v : Passes t s.at (takes o) end) where
  -- o gives the bytes y
  moves : (y : List ℕ) (len : ℕ) (d e : List ℕ) → y ≡ bytes (writes o (chars (drop s.at t))) → len ≡ s.len + length y → e ≡ over s.len y d
      → Steps r t s d (record { k = s.k + 1; from = to; at = end; len = len }) e
  moves y len d e py pl w =
      let x = chars (drop s.at t) in
      let q = ops_left r (s.k + 1) to in
      let others = bytes (apply q (chars (drop end t))) in
      let all : drop s.len (played r t) ≡ y ++ others =
      g.left
      ∙ ap (λ l. bytes (apply l x)) b.has
      ∙ bytes_append (writes o x) (apply q (drop (takes o) x))
      ∙ ap₂ ◌++◌ (sym py) (ap (λ l. bytes (apply q l)) (sym v.left)) in
      let m : length (played r t) - s.len ≡ length y + length others =
      sym (length-drop s.len (played r t)) ∙ ap length all ∙ length-append y others in
      let j : len - s.len ≡ length y = omega arith in
      record {
        stage = record {
          along = along_next r t s.k s.from s.at o to end g.along b v;
          small = g.small;
          given = omega (arith, g.given, m);
          left =
              ap (λ k. drop k (played r t)) pl
              ∙ sym (drop-drop (length y) s.len (played r t))
              ∙ ap (drop (length y)) all
              ∙ drop-append_seam y others;
        };
        next = refl;
        forth = omega arith;
        wrote = w ∙ ap (λ z. over s.len z d) (sym (ap₂ take j all ∙ take-append_seam y others));
      }

-- the operation at k, as the code finds it
module _ (r t : List ℕ) (n : ℕ) (s : Progress) (kind count : ℕ) (g : Stage r t s) (p : n ≡ op_count_of r) (h : s.k < n) (q : kind ≡ kind_at r s.k) (c : count ≡ count_at r s.k) (small : count < 65536) where
  module _ (e : kind ≡ 2) where
    pub insert_room : s.from + count ≤ length r
    insert_room = load_room r n s.k s.from kind count p g.along.place h q c small e

    pub step_insert : (b d : List ℕ) → d ≡ over s.len (take (s.from + count - s.from) (drop s.from r)) b
        → Steps r t s b (record { k = s.k + 1; from = s.from + count; at = s.at; len = s.len + count }) d
    step_insert b d w =
        let y = take (s.from + count - s.from) (drop s.from r) in
        let l : length y ≡ count = length-take-le (s.from + count - s.from) (drop s.from r) (simp length-drop (omega (arith, insert_room))) ∙ omega arith in
        moves r t s g (insert (chars y)) (s.from + count) s.at (begins_insert r n s.k s.from kind count p g.along.place h q c small e) (stays_there t s.at g.along.inside g.along.well) y (s.len + count) b d
        (sym (bytes_chars y (begins_well r n s.k s.from kind count p g.along.place h q c small e)))
        (ap (λ i. s.len + i) (sym l))
        w

  retain_begins : kind ≡ 1 → Begins r s.k s.from (retain count) s.from
  retain_begins = begins_retain r n s.k s.from kind count p g.along.place h q c small

  delete_begins : (kind ≡ 1 → ⊥) → (kind ≡ 2 → ⊥) → Begins r s.k s.from (delete count) s.from
  delete_begins = begins_delete r n s.k s.from kind count p g.along.place h q c small

  pub chars_room : (kind ≡ 2 → ⊥) → count ≤ number_of_chars (drop s.at t)
  chars_room = along_room r t n s.k s.from s.at kind count g.along p h q c small

  pub takes_rest : (kind ≡ 2 → ⊥) → TakesRest t s.at count (n - s.k)
  takes_rest = along_rest r t n s.k s.from s.at kind count g.along p h q c small

  module _ (end : ℕ) (v : Passes t s.at count end) where
    pub step_retain : (b d : List ℕ) → kind ≡ 1 → d ≡ over s.len (take (end - s.at) (drop s.at t)) b
        → Steps r t s b (record { k = s.k + 1; from = s.from; at = end; len = s.len + (end - s.at) }) d
    step_retain b d e w =
        let y = take (end - s.at) (drop s.at t) in
        let l : length y ≡ end - s.at = length-take-le (end - s.at) (drop s.at t) (simp length-drop (omega (arith, v.above, v.below))) in
        moves r t s g (retain count) s.from end (retain_begins e) v y (s.len + (end - s.at)) b d v.part (ap (λ i. s.len + i) (sym l)) w

    pub step_delete : (b : List ℕ) → (kind ≡ 1 → ⊥) → (kind ≡ 2 → ⊥) → Steps r t s b (record { k = s.k + 1; from = s.from; at = end; len = s.len }) b
    unfolding bytes
    step_delete b d e = moves r t s g (delete count) s.from end (delete_begins d e) v [] s.len b b refl (sym (add-zero s.len)) (sym (over_nil s.len b))

-- ---- how long the text after an edit is

-- no longer than the text before and what is inserted
pub played_most : (r t : List ℕ) → record_fault r ≡ 0 → T (is_well_formed t) → length (played r t) ≤ length t + text_bytes_of r
unfolding played
played_most r t z w = omega (arith, apply_most (ops r) (chars t), ap length (bytes_chars t w), ops_text r z)

-- ---- the first stage and the last

played_small : (r t : List ℕ) → record_fault r ≡ 0 → T (is_well_formed t) → number_of_chars t ≡ base_of r → length (played r t) ≤ 131072
unfolding played
played_small r t z w e =
    let s = ops r in
    omega (arith, bytes_most (apply s (chars t)), apply_length s (chars t) (chars_length t w ∙ e ∙ sym (ops_base r z)), (fits_limits s).0 (ops_good r z).in_limits)

pub stage_start : (r t : List ℕ) (n from : ℕ) → record_fault r ≡ 0 → T (is_well_formed t) → number_of_chars t ≡ base_of r → n ≡ op_count_of r → from ≡ start_of_text n
    → Stage r t (record { k = 0; from = from; at = 0; len = 0 })
stage_start r t n from z w e p q =
    let a = ops_start r n from z p q in
    record {
      along = along_start r t n from z w e p q;
      small = played_small r t z w e;
      given = zero-le;
      left = unfold played in ap (λ q. bytes (apply q (chars t))) (sym a);
    }

pub stage_end : (r t : List ℕ) (n : ℕ) (s : Progress) → n ≡ op_count_of r → Stage r t s → n ≤ s.k → s.len ≡ length (played r t)
unfolding bytes
stage_end r t n s p g h =
    let e : drop s.len (played r t) ≡ [] = g.left ∙ ap (λ q. bytes (apply q (chars (drop s.at t)))) (begins_none r n s.k s.from p h) in
    omega (arith, length-drop s.len (played r t), ap length e, g.given)
