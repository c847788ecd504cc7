-- The claims, for characters of any type. All but the last two hold for every sequence, built or not.
use Prim.Native.Nat.{◌+◌, ◌≤◌}
use native.Mathlib.Omega.{arith}
use mathlib.Core.Path.{◌≡◌, refl, ap, ap₂, ◌∙◌, sym}
use mathlib.Core.List.{List, [], ◌∷◌, ◌++◌, reverse, reverse-cons, reverse-reverse}
use lib.ListN.{length, drop, length-drop}
use lib.Seq.{length-take-le}
use mathlib.Core.Logic.{◌≢◌}
use Rattle.std.specs.declared.cmp.Ordering.{Ordering}
use Rattle.std.specs.declared.cmp.Ordering.TheVariants.{Equal}
use Rattle.edits.specs.Op.{Op, retain, insert, delete, base, target}
use Rattle.edits.specs.Built.{Built}
use Rattle.edits.specs.Build.{extend, build}
use Rattle.edits.specs.Apply.{apply}
use Rattle.edits.specs.Align.{steps, each}
use Rattle.edits.specs.Compose.{compose_turn, made, compose}
use Rattle.edits.specs.Transform.{transform_turn, lefts, rights, keep_both, transform_by, transform}
use Rattle.edits.specs.Invert.{undo_all, invert}
use Rattle.edits.proofs.Meaning.{mean, mean_lasts}
use Rattle.edits.proofs.Building.{add_same, build_mean, build_built}
use Rattle.edits.proofs.Composing.{length_apply}
use Rattle.edits.proofs.Effects.{compose_composes, transform_meets, Transforms, meets_transforms, twofold, keep_both_tied, keep_once, keep_once_tied}
use Rattle.edits.proofs.Unique.{extend_build, unique}

module _ {C : Type 0} where
  pub build_apply : (s : List (Op C)) (t : List C) → apply (build s) t ≡ apply s t
  build_apply s t = ap (λ m. m.text t) (build_mean s)

  pub build_base : (s : List (Op C)) → base (build s) ≡ base s
  build_base s = ap (λ m. m.before) (build_mean s)

  pub build_target : (s : List (Op C)) → target (build s) ≡ target s
  build_target s = ap (λ m. m.after) (build_mean s)

  pub extend_mean : (s : List (Op C)) (o : Op C) → mean (extend s o) ≡ mean (s ++ (o ∷ []))
  unfolding extend
  extend_mean s o = add_same mean mean_lasts (reverse s) o [] ∙ ap mean (reverse-cons o (reverse s) ∙ ap (λ (r : List (Op C)). r ++ (o ∷ [])) (reverse-reverse s))

  pub apply_length : (s : List (Op C)) (t : List C) → length t ≡ base s → length (apply s t) ≡ target s
  apply_length s t e = length_apply s t (omega arith)

  module _ (a b : List (Op C)) (e : target a ≡ base b) where
    pub compose_base : base (compose a b) ≡ base a
    compose_base = (compose_composes a b e).before

    pub compose_target : target (compose a b) ≡ target b
    compose_target = (compose_composes a b e).after

    pub compose_apply : (t : List C) → length t ≡ base a → apply (compose a b) t ≡ apply b (apply a t)
    compose_apply t l = (compose_composes a b e).text t (omega arith)

  -- what comes out is built
  pub compose_built : (a b : List (Op C)) → Built (compose a b)
  unfolding compose
  compose_built a b = build_built (each made (steps compose_turn a b))

  pub transform_built : (tie : List C → List (Op C)) (order : List C → List C → Ordering) (a b : List (Op C))
      → let s = transform_by tie order a b in Built s.left × Built s.right
  unfolding transform_by
  transform_built tie order a b =
      let s = steps (transform_turn order) a b in (build_built (each (lefts tie) s), build_built (each (rights tie) s))

  pub invert_built : (s : List (Op C)) (t : List C) → Built (invert s t)
  unfolding invert
  invert_built s t = build_built (undo_all s t)

  -- of the inverse, base and target change places
  undo_base : (s : List (Op C)) (t : List C) → base (undo_all s t) ≡ target s
  undo_base [] t = refl
  undo_base (retain n ∷ s) t = ap (λ k. n + k) (undo_base s (drop n t))
  undo_base (insert x ∷ s) t = ap (λ k. length x + k) (undo_base s t)
  undo_base (delete n ∷ s) t = ap (λ k. 0 + k) (undo_base s (drop n t))

  undo_target : (s : List (Op C)) (t : List C) → base s ≤ length t → target (undo_all s t) ≡ base s
  undo_target [] t l = refl
  undo_target (retain n ∷ s) t l = ap (λ k. n + k) (undo_target s (drop n t) (simp length-drop (omega arith)))
  undo_target (insert x ∷ s) t l = ap (λ k. 0 + k) (undo_target s t (omega arith))
  undo_target (delete n ∷ s) t l = ap₂ ◌+◌ (length-take-le n t (omega arith)) (undo_target s (drop n t) (simp length-drop (omega arith)))

  pub invert_base : (s : List (Op C)) (t : List C) → base (invert s t) ≡ target s
  unfolding invert
  invert_base s t = build_base (undo_all s t) ∙ undo_base s t

  pub invert_target : (s : List (Op C)) (t : List C) → base s ≤ length t → target (invert s t) ≡ base s
  unfolding invert
  invert_target s t l = build_target (undo_all s t) ∙ undo_target s t l

  module _ (order : List C → List C → Ordering) (order_equal : (s t : List C) → order s t ≡ Equal → s ≡ t)
      (a b : List (Op C)) (e : base a ≡ base b) where
    pub transform_tp1 : Transforms a b (transform order a b)
    unfolding transform
    transform_tp1 = meets_transforms (transform_meets keep_both twofold keep_both_tied order order_equal a b e)

    pub keep_once_tp1 : Transforms a b (transform_by keep_once order a b)
    keep_once_tp1 = meets_transforms (transform_meets keep_once (λ s. insert s ∷ []) keep_once_tied order order_equal a b e)

  pub extend_built : (s : List (Op C)) (o : Op C) → Built s → Built (extend s o)
  extend_built s o h = rw (extend_build s o h) (build_built (s ++ (o ∷ [])))

module _ {C : Type 0} (x y : C) (apart : x ≢ y) where
  pub compose_assoc : (a b c : List (Op C)) → target a ≡ base b → target b ≡ base c → compose (compose a b) c ≡ compose a (compose b c)
  compose_assoc a b c p q =
      let p' = p ∙ sym (compose_base b c q) in
      let q' = compose_target a b p ∙ q in
      let ab = compose_base a b p in
      let all = compose_base (compose a b) c q' ∙ ab in
      unique x y apart (compose (compose a b) c) (compose a (compose b c)) (compose_built (compose a b) c) (compose_built a (compose b c))
      (all ∙ sym (compose_base a (compose b c) p'))
      (λ t l.
      let l' = l ∙ all in
      cc (
        compose_apply (compose a b) c q' t (l' ∙ sym ab),
        compose_apply a b p t l',
        compose_apply a (compose b c) p' t l',
        compose_apply b c q (apply a t) (apply_length a t l' ∙ p),
      ))
