-- How large a result is: it has no more operations than both operands together, and A' has the text of A, B' that of B.
use Rattle.std.specs.Prelude.{◌≡◌, ℕ, ◌+◌, ◌≤◌, List, [], ◌∷◌, ◌++◌, map, length}
use native.Mathlib.Omega.{arith}
use lib.ListN.{length-append, length-reverse}
use mathlib.Core.Path.{refl, ap, sym, ◌∙◌}
use Rattle.std.specs.declared.cmp.Ordering.{Ordering}
use Rattle.std.specs.declared.cmp.Ordering.TheVariants.{Less, Equal, Greater}
use Rattle.characters.specs.Text.{Char, bytes}
use Rattle.characters.specs.Order.{order}
use Rattle.characters.proofs.Texts.{order_equal, bytes_append}
use Rattle.edits.specs.Op.{Op, retain, insert, delete, size}
use Rattle.edits.specs.Build.{put, add, add_all, build}
use Rattle.edits.specs.Align.{Step, one, two, Turn, step, steps, each}
use Rattle.edits.specs.Compose.{compose_turn, made, compose}
use Rattle.edits.specs.Sequence.{Seq}
use Rattle.edits.specs.Transform.{lesser, transform_turn, lefts, keep_both, transform_by, transform}
use Rattle.edits.specs.Trace.{typed}
use Rattle.edits.proofs.Meaning.{if_zero_elim, size_rest, length_front}
use Rattle.edits.proofs.Aligning.{steps_rule}
use Rattle.edits.proofs.Theorems.{A', B', transform_swaps, typed_left, typed_right}
use Rattle.record.specs.Record.{in_bytes, text}

-- ---- operations

module _ {C : Type 0} where
  -- the builders never make two operations of one
  put_length : (o : Op C) (r : List (Op C)) → length (put o r) ≤ length r + 1
  unfolding put
  put_length o [] = omega arith
  put_length (retain n) (retain m ∷ r) = omega arith
  put_length (retain n) (insert x ∷ r) = omega arith
  put_length (retain n) (delete m ∷ r) = omega arith
  put_length (insert y) (retain m ∷ r) = omega arith
  put_length (insert y) (insert x ∷ r) = omega arith
  put_length (insert y) (delete m ∷ []) = omega arith
  put_length (insert y) (delete m ∷ retain k ∷ r) = omega arith
  put_length (insert y) (delete m ∷ insert x ∷ r) = omega arith
  put_length (insert y) (delete m ∷ delete k ∷ r) = omega arith
  put_length (delete n) (retain m ∷ r) = omega arith
  put_length (delete n) (insert x ∷ r) = omega arith
  put_length (delete n) (delete m ∷ r) = omega arith

  add_length : (r : List (Op C)) (o : Op C) → length (add r o) ≤ length r + 1
  unfolding add
  add_length r o = let P : List (Op C) → Type 0 = λ u. length u ≤ length r + 1 in if_zero_elim P (size o) (λ _. omega arith) (λ _. put_length o r)

  pub add_all_length : (r s : List (Op C)) → length (add_all r s) ≤ length r + length s
  unfolding add_all
  add_all_length r [] = omega arith
  add_all_length r (o ∷ s) = omega (arith, add_all_length (add r o) s, add_length r o)

  build_length : (s : List (Op C)) → length (build s) ≤ length s
  unfolding build
  build_length s = omega (arith, length-reverse (add_all [] s), add_all_length [] s)

  -- where no step gives more operations than it uses up, all steps don't
  module _ (turn : Op C → Op C → Turn) (g : Step C → List (Op C)) where
    abbrev Spends : Step C × List (Op C) × List (Op C) → ℕ → Type 0
    Spends s k = length (g s.0) + (length s.1 + length s.2) ≤ k

    module _ (ends_one : (o : Op C) → length (g (one o)) ≤ 1) (ends_two : (p : Op C) → length (g (two p)) ≤ 1) (spends : (o p : Op C) (a b : List (Op C)) → Spends (step (turn o p) o p a b) (length (o ∷ a) + length (p ∷ b))) where
      ones : (a : List (Op C)) → length (each g (map one a)) ≤ length a
      ones [] = omega arith
      ones (o ∷ a) = omega (arith, length-append (g (one o)) (each g (map one a)), ends_one o, ones a)

      twos : (b : List (Op C)) → length (each g (map two b)) ≤ length b
      twos [] = omega arith
      twos (p ∷ b) = omega (arith, length-append (g (two p)) (each g (map two b)), ends_two p, twos b)

      steps_length : (a b : List (Op C)) → length (each g (steps turn a b)) ≤ length a + length b
      steps_length =
          steps_rule turn (λ a b w. length (each g w) ≤ length a + length b) (λ b. omega (arith, twos b)) (λ a. omega (arith, ones a))
          (λ o p a b w h. let s = step (turn o p) o p a b in omega (arith, length-append (g s.0) (each g w), spends o p a b))

  compose_spends : (o p : Op C) (a b : List (Op C)) → Spends compose_turn made (step (compose_turn o p) o p a b) (length (o ∷ a) + length (p ∷ b))
  unfolding step
  compose_spends (delete n) p a b = omega arith
  compose_spends (retain n) (insert t) a b = omega arith
  compose_spends (insert s) (insert t) a b = omega arith
  compose_spends (retain n) (retain m) a b = simp length_front (simp size_rest (omega arith))
  compose_spends (retain n) (delete m) a b = simp length_front (simp size_rest (omega arith))
  compose_spends (insert s) (retain m) a b = simp length_front (simp size_rest (omega arith))
  compose_spends (insert s) (delete m) a b = simp length_front (simp size_rest (omega arith))

  pub compose_length : (a b : List (Op C)) → length (compose a b) ≤ length a + length b
  unfolding compose
  compose_length a b =
      omega (arith, build_length (each made (steps compose_turn a b)), steps_length compose_turn made (λ o. omega arith) (λ p. omega arith) compose_spends a b)

-- of transform: two inserts that are equal give two and use two
transform_spends : (o p : Op Char) (a b : Seq) → Spends (transform_turn order) (lefts keep_both) (step (transform_turn order o p) o p a b) (length (o ∷ a) + length (p ∷ b))
unfolding step
transform_spends (insert s) (insert t) a b = go (order s t) refl
  where
    go : (w : Ordering) → order s t ≡ w → Spends (transform_turn order) (lefts keep_both) (step (lesser w) (insert s) (insert t) a b) (length (insert s ∷ a) + length (insert t ∷ b))
    go Less e = omega arith
    go Equal e = simp length_front (simp size_rest (omega (arith, ap length (order_equal s t e))))
    go Greater e = omega arith
transform_spends (insert s) (retain m) a b = omega arith
transform_spends (insert s) (delete m) a b = omega arith
transform_spends (retain n) (insert t) a b = omega arith
transform_spends (delete n) (insert t) a b = omega arith
transform_spends (retain n) (retain m) a b = simp length_front (simp size_rest (omega arith))
transform_spends (retain n) (delete m) a b = simp length_front (simp size_rest (omega arith))
transform_spends (delete n) (retain m) a b = simp length_front (simp size_rest (omega arith))
transform_spends (delete n) (delete m) a b = simp length_front (simp size_rest (omega arith))

pub left_length : (a b : Seq) → length (A' a b) ≤ length a + length b
unfolding transform transform_by
left_length a b =
    omega (arith, build_length (each (lefts keep_both) (steps (transform_turn order) a b)), steps_length (transform_turn order) (lefts keep_both) (λ o. omega arith) (λ p. omega arith) transform_spends a b)

pub right_length : (a b : Seq) → length (B' a b) ≤ length a + length b
right_length a b = omega (arith, left_length b a, ap (λ s. length s.left) (transform_swaps a b))

-- ---- text

pub text_typed : (s : Seq) → text (map in_bytes s) ≡ bytes (typed s)
unfolding in_bytes bytes
text_typed [] = refl
text_typed (retain n ∷ s) = text_typed s
text_typed (insert x ∷ s) = ap (λ l. bytes x ++ l) (text_typed s) ∙ sym (bytes_append x (typed s))
text_typed (delete n ∷ s) = text_typed s

pub text_left : (a b : Seq) → text (map in_bytes (A' a b)) ≡ text (map in_bytes a)
text_left a b = text_typed (A' a b) ∙ ap bytes (typed_left a b) ∙ sym (text_typed a)

pub text_right : (a b : Seq) → text (map in_bytes (B' a b)) ≡ text (map in_bytes b)
text_right a b = text_typed (B' a b) ∙ ap bytes (typed_right a b) ∙ sym (text_typed b)
