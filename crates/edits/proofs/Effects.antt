-- What compose, transform and invert do.
use Prim.Native.Nat.{min, ◌≤◌}
use native.Mathlib.Omega.{arith}
use mathlib.Core.Path.{◌≡◌, refl, sym, ap, subst₃, ◌∙◌}
use mathlib.Core.List.{List, [], ◌∷◌, ◌++◌}
use lib.ListN.{length, take, length-take, replicate, drop, length-drop, take-append-drop}
use mathlib.Core.Bool.{true}
use lib.Seq.{take_at, drop_at, length-take-le}
use Rattle.std.specs.declared.cmp.Ordering.{Ordering}
use Rattle.std.specs.declared.cmp.Ordering.TheVariants.{Less, Equal, Greater}
use Rattle.edits.specs.Op.{Op, retain, insert, delete, gives, base, target, takes}
use Rattle.edits.specs.Align.{Step, step, steps, each, one, two, both}
use Rattle.edits.specs.Compose.{compose_turn, made, compose}
use Rattle.edits.specs.Transform.{Sides, lesser, transform_turn, lefts, rights, transform_by, keep_both}
use Rattle.edits.specs.Apply.{apply, writes}
use Rattle.edits.specs.Trace.{stays}
use Rattle.edits.specs.Invert.{undo, undo_all, invert}
use Rattle.edits.proofs.Meaning.{mean, mean_lasts}
use Rattle.edits.proofs.Building.{build_mean}
use Rattle.edits.proofs.Composing.{Composes, retain_before, retain_after, alone_before, alone_after, insert_delete, composes_append, length_writes}
use Rattle.edits.proofs.Aligning.{ones, twos, steps_ones, steps_twos, paste, Sound, steps_sound}

-- ---- compose
module _ {C : Type 0} where
  abbrev Made : Step C → Type 0
  Made w = Composes (mean (ones w)) (mean (twos w)) (mean (made w))

  compose_turns : (o p : Op C) (a b : List (Op C)) → Made (step (compose_turn o p) o p a b).0
  unfolding step
  compose_turns (delete n) p a b = alone_before (delete n) refl
  compose_turns (retain n) (insert t) a b = alone_after (insert t) refl
  compose_turns (insert s) (insert t) a b = alone_after (insert t) refl
  compose_turns (retain n) (retain m) a b = retain_before (retain (min n m)) refl
  compose_turns (retain n) (delete m) a b = retain_before (delete (min n m)) refl
  compose_turns (insert s) (retain m) a b = retain_after (insert (take (min (length s) m) s)) (simp length-take (omega arith))
  compose_turns (insert s) (delete m) a b = insert_delete (take (min (length s) m) s) (simp length-take (omega arith))

  compose_sound : Sound compose_turn gives Made
  compose_sound = record {
    counts = λ s s' e. ap (λ m. m.after) e;
    even = λ w h. h.meets;
    end_one = alone_before;
    end_two = alone_after;
    turns = compose_turns;
  }

  pub compose_composes : (a b : List (Op C)) → target a ≡ base b → Composes (mean a) (mean b) (mean (compose a b))
  unfolding compose
  compose_composes a b e =
      let s = steps compose_turn a b in
      subst₃ Composes (steps_ones mean mean_lasts compose_turn a b) (steps_twos mean mean_lasts compose_turn a b) (sym (build_mean (each made s)))
      (paste Made ones twos made (λ w h. h) s (steps_sound compose_turn gives Made compose_sound a b e))

-- ---- transform

-- the first and then B', or the second and then A': both are the one sequence `c`
pub record Meets {C : Type 0} (a b : List (Op C)) (s : Sides C) (c : List (Op C)) : Type 0 where
  pub right : Composes (mean a) (mean s.right) (mean c)
  pub left : Composes (mean b) (mean s.left) (mean c)

-- a step of both sequences as one; `twice` is what two equal inserts come to
module _ {C : Type 0} (twice : List C → List (Op C)) where
  abbrev merge : Op C → Op C → List (Op C)
  merge (retain n) p = p ∷ []
  merge (insert s) p = twice s
  merge (delete n) p = delete n ∷ []

  abbrev pub merged : Step C → List (Op C)
  merged (one o) = o ∷ []
  merged (two p) = p ∷ []
  merged (both o p) = merge o p

module _ {C : Type 0} (tie twice : List C → List (Op C)) where
  abbrev Square : Step C → Type 0
  Square w = Meets (ones w) (twos w) (record { left = lefts tie w; right = rights tie w }) (merged twice w)

  square_one : (o : Op C) → takes o ≡ 0 → Square (one o)
  square_one o e = record { right = retain_after o refl; left = alone_after o e }

  square_two : (p : Op C) → takes p ≡ 0 → Square (two p)
  square_two p e = record { right = alone_after p e; left = retain_after p refl }

  module _ (tied : (s : List C) → Composes (mean (insert s ∷ [])) (mean (tie s)) (mean (twice s)))
      (order : List C → List C → Ordering) (order_equal : (s t : List C) → order s t ≡ Equal → s ≡ t) where
    transform_turns : (o p : Op C) (a b : List (Op C)) → Square (step (transform_turn order o p) o p a b).0
    unfolding step
    transform_turns (insert s) (insert t) a b = go (order s t) refl
      where
        go : (w : Ordering) → order s t ≡ w → Square (step (lesser w) (insert s) (insert t) a b).0
        go Less e = square_one (insert s) refl
        go Equal e = record { right = tied _; left = rw (order_equal s t e) (tied _) }
        go Greater e = square_two (insert t) refl
    transform_turns (insert s) (retain m) a b = square_one (insert s) refl
    transform_turns (insert s) (delete m) a b = square_one (insert s) refl
    transform_turns (retain n) (insert t) a b = square_two (insert t) refl
    transform_turns (delete n) (insert t) a b = square_two (insert t) refl
    transform_turns (retain n) (retain m) a b = record { right = retain_before (retain (min n m)) refl; left = retain_before (retain (min n m)) refl }
    transform_turns (retain n) (delete m) a b = record { right = retain_before (delete (min n m)) refl; left = alone_before (delete (min n m)) refl }
    transform_turns (delete n) (retain m) a b = record { right = alone_before (delete (min n m)) refl; left = retain_before (delete (min n m)) refl }
    transform_turns (delete n) (delete m) a b = record { right = alone_before (delete (min n m)) refl; left = alone_before (delete (min n m)) refl }

    transform_sound : Sound (transform_turn order) takes Square
    transform_sound = record {
      counts = λ s s' e. ap (λ m. m.before) e;
      even = λ w h. sym h.right.before ∙ h.left.before;
      end_one = square_one;
      end_two = square_two;
      turns = transform_turns;
    }

    pub transform_meets : (a b : List (Op C)) → base a ≡ base b → Meets a b (transform_by tie order a b) (each (merged twice) (steps (transform_turn order) a b))
    unfolding transform_by
    transform_meets a b e =
        let s = steps (transform_turn order) a b in
        let h = steps_sound (transform_turn order) takes Square transform_sound a b e in
        record {
          right = subst₃ Composes (steps_ones mean mean_lasts (transform_turn order) a b) (sym (build_mean (each (rights tie) s))) refl
              (paste Square ones (rights tie) (merged twice) (λ w q. q.right) s h);
          left = subst₃ Composes (steps_twos mean mean_lasts (transform_turn order) a b) (sym (build_mean (each (lefts tie) s))) refl
              (paste Square twos (lefts tie) (merged twice) (λ w q. q.left) s h);
        }

-- TP1, with the lengths that go with it
pub record Transforms {C : Type 0} (a b : List (Op C)) (s : Sides C) : Type 0 where
  pub base_right : base s.right ≡ target a
  pub base_left : base s.left ≡ target b
  pub targets : target s.left ≡ target s.right
  pub tp1 : (t : List C) → base a ≤ length t → apply s.right (apply a t) ≡ apply s.left (apply b t)

module _ {C : Type 0} where
  pub meets_transforms : {a b : List (Op C)} {s : Sides C} {c : List (Op C)} → Meets a b s c → Transforms a b s
  meets_transforms h = record {
    base_right = sym h.right.meets;
    base_left = sym h.left.meets;
    targets = sym h.left.after ∙ h.right.after;
    tp1 = λ t l. sym (h.right.text t l) ∙ h.left.text t (omega (arith, h.right.before, h.left.before));
  }

  -- equal inserts that are both kept stand side by side
  abbrev pub twofold : List C → List (Op C)
  twofold s = insert s ∷ insert s ∷ []

  pub keep_both_tied : (s : List C) → Composes (mean (insert s ∷ [])) (mean (keep_both s)) (mean (twofold s))
  keep_both_tied s =
      composes_append [] (insert s ∷ []) (insert s ∷ []) (insert s ∷ []) (retain (length s) ∷ []) (insert s ∷ [])
      (alone_after (insert s) refl) (retain_after (insert s) refl)

  -- another rule: equal inserts are kept once, each side retaining what the other inserted
  abbrev pub keep_once : List C → List (Op C)
  keep_once s = retain (length s) ∷ []

  pub keep_once_tied : (s : List C) → Composes (mean (insert s ∷ [])) (mean (keep_once s)) (mean (insert s ∷ []))
  keep_once_tied s = retain_after (insert s) refl

  pub keep_once_stays : (s : List C) → stays (keep_once s) ≡ replicate (length s) true ++ []
  keep_once_stays s = refl

-- ---- invert
module _ {C : Type 0} where
  undo_takes : (o : Op C) (t : List C) → takes (undo o t) ≡ gives o
  undo_takes (retain n) t = refl
  undo_takes (insert s) t = refl
  undo_takes (delete n) t = refl

  undo_writes : (o : Op C) (t u : List C) → takes o ≤ length t → writes (undo o t) (writes o t ++ u) ≡ take (takes o) t
  undo_writes (retain n) t u h = take_at (take n t) u n (length-take-le n t h)
  undo_writes (insert s) t u h = refl
  undo_writes (delete n) t u h = refl

  undo_apply : (s : List (Op C)) (t : List C) → length t ≡ base s → apply (undo_all s t) (apply s t) ≡ t
  undo_apply [] [] e = refl
  undo_apply [] (c ∷ t) e = absurd (omega arith)
  undo_apply (o ∷ s) t e =
      let u = drop (takes o) t in
      rw (
        undo_writes o t (apply s u) (omega arith),
        drop_at (writes o t) (apply s u) (takes (undo o t)) (length_writes o t (omega arith) ∙ sym (undo_takes o t)),
        undo_apply s u (simp length-drop (omega arith)),
        take-append-drop,
      )

  pub invert_apply : (s : List (Op C)) (t : List C) → length t ≡ base s → apply (invert s t) (apply s t) ≡ t
  unfolding invert
  invert_apply s t e = ap (λ m. m.text (apply s t)) (build_mean (undo_all s t)) ∙ undo_apply s t e
