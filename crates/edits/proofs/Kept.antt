-- Nothing typed is lost by moving: A' inserts the characters that A inserts, in order, and B' those of B.
use native.Mathlib.Nat.{suc-ne-zero}
use mathlib.Core.Path.{◌≡◌, refl, sym, ap, ap₂, ◌∙◌}
use mathlib.Core.List.{List, [], ◌∷◌, ◌++◌, map, append_assoc}
use Rattle.std.specs.declared.cmp.Ordering.{Ordering}
use Rattle.std.specs.declared.cmp.Ordering.TheVariants.{Less, Equal, Greater}
use Rattle.edits.specs.Op.{Op, retain, insert, delete, size}
use Rattle.edits.specs.Align.{Step, one, two, step, steps, each}
use Rattle.edits.specs.Transform.{lesser, transform_turn, lefts, rights, keep_both, transform_by, transform}
use Rattle.edits.specs.Trace.{typed_by, typed}
use Rattle.edits.proofs.Meaning.{Lasting}
use Rattle.edits.proofs.Building.{build_same}
use Rattle.edits.proofs.Aligning.{ones, twos, steps_rule, All, steps_ones, steps_twos}

module _ {C : Type 0} where
  typed_empty : (o : Op C) (s : List (Op C)) → size o ≡ 0 → typed (o ∷ s) ≡ typed s
  typed_empty (retain n) s e = refl
  typed_empty (insert []) s e = refl
  typed_empty (insert (c ∷ x)) s e = absurd (suc-ne-zero _ e)
  typed_empty (delete n) s e = refl

  pub typed_lasts : Lasting {C = C} typed
  typed_lasts = record {
    behind = λ o s u e. ap (λ l. typed_by o ++ l) e;
    empty = typed_empty;
    retains = λ m n s. refl;
    inserts = λ x y s. append_assoc x y (typed s);
    deletes = λ m n s. refl;
    swap = λ x n s. refl;
  }

  pub typed_append : (s u : List (Op C)) → typed (s ++ u) ≡ typed s ++ typed u
  typed_append [] u = refl
  typed_append (o ∷ s) u = ap (λ l. typed_by o ++ l) (typed_append s u) ∙ sym (append_assoc (typed_by o) (typed s) (typed u))

  -- ---- A' and B'

  typed_each : (P : Step C → Type 0) (g h : Step C → List (Op C)) → ((w : Step C) → P w → typed (g w) ≡ typed (h w))
      → (s : List (Step C)) → All P s → typed (each g s) ≡ typed (each h s)
  typed_each P g h f [] p = refl
  typed_each P g h f (w ∷ s) p =
      typed_append (g w) (each g s) ∙ ap₂ ◌++◌ (f w p.0) (typed_each P g h f s p.1) ∙ sym (typed_append (h w) (each h s))

  module _ (order : List C → List C → Ordering) (order_equal : (s t : List C) → order s t ≡ Equal → s ≡ t) where
    abbrev Keeps : Step C → Type 0
    Keeps w = (typed (lefts keep_both w) ≡ typed (ones w)) × (typed (rights keep_both w) ≡ typed (twos w))

    keeps_turns : (o p : Op C) (a b : List (Op C)) → Keeps (step (transform_turn order o p) o p a b).0
    unfolding step
    keeps_turns (insert s) (insert t) a b = go (order s t) refl
      where
        go : (w : Ordering) → order s t ≡ w → Keeps (step (lesser w) (insert s) (insert t) a b).0
        go Less e = (refl, refl)
        go Equal e = rw (order_equal s t e) (refl, refl)
        go Greater e = (refl, refl)
    keeps_turns (insert s) (retain m) a b = (refl, refl)
    keeps_turns (insert s) (delete m) a b = (refl, refl)
    keeps_turns (retain n) (insert t) a b = (refl, refl)
    keeps_turns (delete n) (insert t) a b = (refl, refl)
    keeps_turns (retain n) (retain m) a b = (refl, refl)
    keeps_turns (retain n) (delete m) a b = (refl, refl)
    keeps_turns (delete n) (retain m) a b = (refl, refl)
    keeps_turns (delete n) (delete m) a b = (refl, refl)

    all_keep : (f : Op C → Step C) → ((o : Op C) → Keeps (f o)) → (s : List (Op C)) → All Keeps (map f s)
    all_keep f k [] = tt
    all_keep f k (o ∷ s) = (k o, all_keep f k s)

    steps_keep : (a b : List (Op C)) → All Keeps (steps (transform_turn order) a b)
    steps_keep =
        steps_rule (transform_turn order) (λ a b s. All Keeps s) (all_keep two (λ p. (refl, refl))) (all_keep one (λ o. (refl, refl)))
        (λ o p a b w h. (keeps_turns o p a b, h))

    pub typed_left : (a b : List (Op C)) → typed (transform order a b).left ≡ typed a
    unfolding transform transform_by
    typed_left a b =
        let s = steps (transform_turn order) a b in
        build_same typed typed_lasts (each (lefts keep_both) s)
        ∙ typed_each Keeps (lefts keep_both) ones (λ w k. k.0) s (steps_keep a b)
        ∙ steps_ones typed typed_lasts (transform_turn order) a b

    pub typed_right : (a b : List (Op C)) → typed (transform order a b).right ≡ typed b
    unfolding transform transform_by
    typed_right a b =
        let s = steps (transform_turn order) a b in
        build_same typed typed_lasts (each (rights keep_both) s)
        ∙ typed_each Keeps (rights keep_both) twos (λ w k. k.1) s (steps_keep a b)
        ∙ steps_twos typed typed_lasts (transform_turn order) a b
