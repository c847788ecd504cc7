-- What two edits come to together: all that each of them types, and of the text what both keep.
use mathlib.Core.List.{List, [], ◌∷◌, ◌++◌}
use lib.ListN.{take, drop, length, replicate}
use mathlib.Core.Bool.{Bool, ◌&&◌, true, false}
use native.Mathlib.Omega.{arith}
use mathlib.Core.Path.{◌≡◌, refl, ap, sym, ap₂, ◌∙◌, subst₃}
use Prim.Native.Nat.{ℕ, zero, suc, min}
use Rattle.std.specs.declared.cmp.Ordering.{Ordering}
use Rattle.std.specs.declared.cmp.Ordering.TheVariants.{Less, Equal, Greater}
use Rattle.edits.specs.Op.{Op, retain, insert, delete, base, takes}
use Rattle.edits.specs.Apply.{apply}
use Rattle.edits.specs.Trace.{typed, stays, marked}
use Rattle.edits.specs.Align.{Step, one, two, step, steps, each}
use Rattle.edits.specs.Transform.{lesser, transform_turn, keep_both, transform}
use Rattle.edits.proofs.Marks.{marked_retain, marked_delete, stays_none, stays_lasts, stays_append, stays_length}
use Rattle.edits.proofs.Composing.{total_append}
use Rattle.edits.proofs.Aligning.{ones, twos, All, steps_ones, steps_twos, Sound, steps_sound}
use Rattle.edits.proofs.Effects.{merged, twofold, transform_meets, keep_both_tied}
use Rattle.edits.proofs.Kept.{typed_lasts, typed_append}

-- the third list has the elements of the first two, each in its own order
pub data Mixed {C : Type 0} : List C → List C → List C → Type 0 where
  none : Mixed [] [] []
  from_one : {c : C} {x y z : List C} → Mixed x y z → Mixed (c ∷ x) y (c ∷ z)
  from_two : {c : C} {x y z : List C} → Mixed x y z → Mixed x (c ∷ y) (c ∷ z)

module _ {C : Type 0} where
  mixed_append : {x y z x' y' z' : List C} → Mixed x y z → Mixed x' y' z' → Mixed (x ++ x') (y ++ y') (z ++ z')
  mixed_append none q = q
  mixed_append (from_one p) q = from_one (mixed_append p q)
  mixed_append (from_two p) q = from_two (mixed_append p q)

  only_one : (x : List C) → Mixed x [] x
  only_one [] = none
  only_one (c ∷ x) = from_one (only_one x)

  only_two : (y : List C) → Mixed [] y y
  only_two [] = none
  only_two (c ∷ y) = from_two (only_two y)

  -- a text after an edit: what was typed, and what stays
  pub apply_mixes : (s : List (Op C)) (t : List C) → Mixed (typed s) (marked (stays s) t) (apply s t)
  apply_mixes [] t = none
  apply_mixes (retain n ∷ s) t = rw (marked_retain n (stays s) t) (mixed_append (only_two (take n t)) (apply_mixes s (drop n t)))
  apply_mixes (insert x ∷ s) t = mixed_append (only_one x) (apply_mixes s t)
  apply_mixes (delete n ∷ s) t = rw (marked_delete n (stays s) t) (apply_mixes s (drop n t))

-- marked on both sides
abbrev pub on_both : List Bool → List Bool → List Bool
on_both [] ns = []
on_both (m ∷ ms) [] = []
on_both (m ∷ ms) (n ∷ ns) = (m && n) ∷ on_both ms ns

on_both_append : (ms ns ms' ns' : List Bool) → length ms ≡ length ns → on_both (ms ++ ms') (ns ++ ns') ≡ on_both ms ns ++ on_both ms' ns'
on_both_append [] [] ms' ns' e = refl
on_both_append [] (n ∷ ns) ms' ns' e = absurd (omega arith)
on_both_append (m ∷ ms) [] ms' ns' e = absurd (omega arith)
on_both_append (m ∷ ms) (n ∷ ns) ms' ns' e = ap (λ l. (m && n) ∷ l) (on_both_append ms ns ms' ns' (omega arith))

on_both_same : (k : ℕ) (m n : Bool) → on_both (replicate k m ++ []) (replicate k n ++ []) ≡ replicate k (m && n) ++ []
on_both_same zero m n = refl
on_both_same (suc k) m n = ap (λ l. (m && n) ∷ l) (on_both_same k m n)

-- a text that holds all that `a` and `b` type, each in its order, and of the text `t` just what both keep
pub record Holds {C : Type 0} (a b : List (Op C)) (t result : List C) : Type 0 where
  pub new : List C
  pub types : Mixed (typed a) (typed b) new
  pub keeps : Mixed new (marked (on_both (stays a) (stays b)) t) result

-- `c` types what `a` and `b` type, and keeps what both keep
pub record Keeping {C : Type 0} (a b c : List (Op C)) : Type 0 where
  pub even : base a ≡ base b
  pub types : Mixed (typed a) (typed b) (typed c)
  pub keeps : stays c ≡ on_both (stays a) (stays b)

module _ {C : Type 0} where
  keeping_nil : Keeping {C = C} [] [] []
  keeping_nil = record { even = refl; types = none; keeps = refl }

  keeping_append : (a b c a' b' c' : List (Op C)) → Keeping a b c → Keeping a' b' c' → Keeping (a ++ a') (b ++ b') (c ++ c')
  keeping_append a b c a' b' c' p q = record {
    even = simp total_append (omega (arith, p.even, q.even));
    types = subst₃ Mixed (sym (typed_append a a')) (sym (typed_append b b')) (sym (typed_append c c')) (mixed_append p.types q.types);
    keeps =
        stays_append c c' ∙ ap₂ ◌++◌ p.keeps q.keeps
        ∙ sym (on_both_append (stays a) (stays b) (stays a') (stays b') (stays_length a ∙ p.even ∙ sym (stays_length b)))
        ∙ ap₂ on_both (sym (stays_append a a')) (sym (stays_append b b'));
  }

  -- ---- the steps of transform
  abbrev Kept : Step C → Type 0
  Kept w = Keeping (ones w) (twos w) (merged twofold w)

  kept_one : (o : Op C) → takes o ≡ 0 → Kept (one o)
  kept_one o e = record { even = omega arith; types = only_one _; keeps = rw (stays_none o e) }

  kept_two : (p : Op C) → takes p ≡ 0 → Kept (two p)
  kept_two p e = record { even = omega arith; types = only_two _; keeps = rw (stays_none p e) }

  both_typed : (x : List C) → Mixed (x ++ []) (x ++ []) (x ++ (x ++ []))
  both_typed x = mixed_append (only_one x) (only_two (x ++ []))

  module _ (order : List C → List C → Ordering) (order_equal : (s t : List C) → order s t ≡ Equal → s ≡ t) where
    kept_turns : (o p : Op C) (a b : List (Op C)) → Kept (step (transform_turn order o p) o p a b).0
    unfolding step
    kept_turns (insert s) (insert t) a b = go (order s t) refl
      where
        go : (w : Ordering) → order s t ≡ w → Kept (step (lesser w) (insert s) (insert t) a b).0
        go Less e = kept_one (insert s) refl
        go Equal e = rw (order_equal s t e) (record { even = refl; types = both_typed (take (min (length t) (length t)) t); keeps = refl })
        go Greater e = kept_two (insert t) refl
    kept_turns (insert s) (retain m) a b = kept_one (insert s) refl
    kept_turns (insert s) (delete m) a b = kept_one (insert s) refl
    kept_turns (retain n) (insert t) a b = kept_two (insert t) refl
    kept_turns (delete n) (insert t) a b = kept_two (insert t) refl
    kept_turns (retain n) (retain m) a b = record { even = refl; types = none; keeps = sym (on_both_same (min n m) true true) }
    kept_turns (retain n) (delete m) a b = record { even = refl; types = none; keeps = sym (on_both_same (min n m) true false) }
    kept_turns (delete n) (retain m) a b = record { even = refl; types = none; keeps = sym (on_both_same (min n m) false true) }
    kept_turns (delete n) (delete m) a b = record { even = refl; types = none; keeps = sym (on_both_same (min n m) false false) }

    kept_sound : Sound (transform_turn order) takes Kept
    kept_sound = record { counts = λ s s' e. ap (λ m. m.before) e; even = λ w h. h.even; end_one = kept_one; end_two = kept_two; turns = kept_turns }

    all_kept : (s : List (Step C)) → All Kept s → Keeping (each ones s) (each twos s) (each (merged twofold) s)
    all_kept [] h = keeping_nil
    all_kept (w ∷ s) h = keeping_append (ones w) (twos w) (merged twofold w) _ _ _ h.0 (all_kept s h.1)

    steps_kept : (a b : List (Op C)) → base a ≡ base b → Keeping a b (each (merged twofold) (steps (transform_turn order) a b))
    steps_kept a b e =
        let turn = transform_turn order in
        let k = all_kept (steps turn a b) (steps_sound turn takes Kept kept_sound a b e) in
        record {
          even = e;
          types = rw (steps_ones typed typed_lasts turn a b, steps_twos typed typed_lasts turn a b) at k.types;
          keeps = rw (steps_ones stays stays_lasts turn a b, steps_twos stays stays_lasts turn a b) at k.keeps;
        }

    -- A and then B' is one edit that types what A and B type and keeps what both keep
    pub transform_holds : (a b : List (Op C)) (t : List C) → base a ≡ base b → length t ≡ base a → Holds a b t (apply (transform order a b).right (apply a t))
    unfolding transform
    transform_holds a b t e l =
        let c = each (merged twofold) (steps (transform_turn order) a b) in
        let k = steps_kept a b e in
        let m = transform_meets keep_both twofold keep_both_tied order order_equal a b e in
        record { new = typed c; types = k.types; keeps = rw (k.keeps, m.right.text t (omega arith)) at (apply_mixes c t) }
