-- The equations that a loop over the two front operations follows, and what a builder does to a record's parts.
use Rattle.std.specs.Prelude.{◌≡◌, ℕ, ◌+◌, List, [], ◌∷◌, ◌++◌, map, reverse}
use mathlib.Core.Path.{refl, ap, ◌∙◌, ap₂, sym}
use mathlib.Core.List.{reverse-cons, append-nil}
use native.Mathlib.Omega.{arith}
use Rattle.std.specs.declared.cmp.Ordering.{Ordering}
use Rattle.characters.specs.Text.{Char, bytes}
use Rattle.characters.proofs.Texts.{bytes_append}
use Rattle.edits.specs.Op.{Op, takes, gives, base, target, retain, insert, delete, size, if_zero}
use Rattle.edits.specs.Build.{add_all, add, build, put}
use Rattle.edits.specs.Align.{Step, one, two, Turn, step, align, steps, each}
use Rattle.edits.specs.Compose.{compose_turn, made, compose}
use Rattle.edits.specs.Transform.{transform_turn, lefts, rights, transform_by}
use Rattle.edits.specs.Trace.{typed_by, typed}
use Rattle.edits.specs.Sequence.{Seq}
use Rattle.edits.proofs.Building.{add_all_append, add_same}
use Rattle.edits.proofs.Aligning.{steps_step}
use Rattle.edits.proofs.Meaning.{mean, mean_lasts, if_zero_elim}
use Rattle.edits.proofs.Composing.{total_append}
use Rattle.edits.proofs.Kept.{typed_lasts, typed_append}
use Rattle.record.specs.Record.{inserted, ByteSeq, text, in_bytes}
use Rattle.record.proofs.Sequences.{in_bytes_size}

module _ {C : Type 0} (turn : Op C → Op C → Turn) (g : Step C → List (Op C)) where
  -- what a loop has built, `r`, and what it still has to go through
  abbrev pub running : List (Op C) → List (Op C) → List (Op C) → List (Op C)
  running r a b = add_all r (each g (steps turn a b))

  pub run_both : (r : List (Op C)) (o p : Op C) (a b : List (Op C))
      → let s = step (turn o p) o p a b in running r (o ∷ a) (p ∷ b) ≡ running (add_all r (g s.0)) s.1 s.2
  run_both r o p a b = let s = step (turn o p) o p a b in ap (λ w. add_all r (each g w)) (steps_step turn o p a b) ∙ add_all_append r (g s.0) _

  pub run_one : (r : List (Op C)) (o : Op C) (a : List (Op C)) → running r (o ∷ a) [] ≡ running (add_all r (g (one o))) a []
  unfolding steps align
  run_one r o [] = add_all_append r (g (one o)) []
  run_one r o (q ∷ a) = add_all_append r (g (one o)) _

  pub run_two : (r : List (Op C)) (p : Op C) (b : List (Op C)) → running r [] (p ∷ b) ≡ running (add_all r (g (two p))) [] b
  unfolding steps align
  run_two r p b = add_all_append r (g (two p)) _

  pub run_end : (r : List (Op C)) → running r [] [] ≡ r
  unfolding steps align add_all
  run_end r = refl

module _ {C : Type 0} where
  pub compose_runs : (a b : List (Op C)) → compose a b ≡ reverse (running compose_turn made [] a b)
  unfolding compose build
  compose_runs a b = refl

  pub transform_runs : (tie : List C → List (Op C)) (order : List C → List C → Ordering) (a b : List (Op C))
      → transform_by tie order a b ≡ record { left = reverse (running (transform_turn order) (lefts tie) [] a b); right = reverse (running (transform_turn order) (rights tie) [] a b) }
  unfolding transform_by build
  transform_runs tie order a b = refl

  -- base and target grow by the operation's
  pub add_base : (r : List (Op C)) (o : Op C) → base (reverse (add r o)) ≡ base (reverse r) + takes o
  add_base r o =
      ap (λ m. m.before) (add_same mean mean_lasts r o []) ∙ ap base (reverse-cons o r) ∙ total_append takes (reverse r) (o ∷ []) ∙ omega arith

  pub add_target : (r : List (Op C)) (o : Op C) → target (reverse (add r o)) ≡ target (reverse r) + gives o
  add_target r o =
      ap (λ m. m.after) (add_same mean mean_lasts r o []) ∙ ap target (reverse-cons o r) ∙ total_append gives (reverse r) (o ∷ []) ∙ omega arith

  -- the text is appended to, whatever is added
  add_typed : (r : List (Op C)) (o : Op C) → typed (reverse (add r o)) ≡ typed (reverse r) ++ typed_by o
  add_typed r o =
      add_same typed typed_lasts r o [] ∙ ap typed (reverse-cons o r) ∙ typed_append (reverse r) (o ∷ []) ∙ ap (λ l. typed (reverse r) ++ l) (append-nil (typed_by o))

inserted_typed : (o : Op ℕ) → inserted o ≡ typed_by o
inserted_typed (retain n) = refl
inserted_typed (insert t) = refl
inserted_typed (delete n) = refl

text_typed : (q : ByteSeq) → text q ≡ typed q
text_typed [] = refl
text_typed (o ∷ q) = ap₂ ◌++◌ (inserted_typed o) (text_typed q)

pub add_text : (r : ByteSeq) (o : Op ℕ) → text (reverse (add r o)) ≡ text (reverse r) ++ inserted o
add_text r o = text_typed (reverse (add r o)) ∙ add_typed r o ∙ ap₂ ◌++◌ (sym (text_typed (reverse r))) (sym (inserted_typed o))

-- ---- the builders on a sequence and on its bytes

pub empty_bytes : (o : Op Char) → size o ≡ 0 → size (in_bytes o) ≡ 0
unfolding in_bytes bytes
empty_bytes (retain n) e = e
empty_bytes (insert []) e = refl
empty_bytes (insert (c ∷ x)) e = absurd (omega arith)
empty_bytes (delete n) e = e

put_bytes : (o : Op Char) (r : Seq) → map in_bytes (put o r) ≡ put (in_bytes o) (map in_bytes r)
unfolding put in_bytes
put_bytes (retain n) [] = refl
put_bytes (insert s) [] = refl
put_bytes (delete n) [] = refl
put_bytes (retain n) (retain m ∷ r) = refl
put_bytes (retain n) (insert x ∷ r) = refl
put_bytes (retain n) (delete m ∷ r) = refl
put_bytes (insert s) (retain m ∷ r) = refl
put_bytes (insert s) (insert x ∷ r) = ap (λ t. insert t ∷ map in_bytes r) (bytes_append x s)
put_bytes (insert s) (delete m ∷ []) = refl
put_bytes (insert s) (delete m ∷ retain k ∷ r) = refl
put_bytes (insert s) (delete m ∷ insert x ∷ r) = ap (λ t. delete m ∷ insert t ∷ map in_bytes r) (bytes_append x s)
put_bytes (insert s) (delete m ∷ delete k ∷ r) = refl
put_bytes (delete n) (retain m ∷ r) = refl
put_bytes (delete n) (insert x ∷ r) = refl
put_bytes (delete n) (delete m ∷ r) = refl

pub add_bytes : (r : Seq) (o : Op Char) → map in_bytes (add r o) ≡ add (map in_bytes r) (in_bytes o)
unfolding add
add_bytes r o =
    if_zero_elim (λ q. map in_bytes q ≡ if_zero (size (in_bytes o)) (map in_bytes r) (put (in_bytes o) (map in_bytes r))) (size o)
    (λ e. ap (λ n. if_zero n (map in_bytes r) (put (in_bytes o) (map in_bytes r))) (sym (empty_bytes o e)))
    (λ h.
    put_bytes o r
    ∙ sym (if_zero_elim (λ q. q ≡ put (in_bytes o) (map in_bytes r)) (size (in_bytes o)) (λ e. absurd (omega (arith, in_bytes_size o h))) (λ _. refl)))
