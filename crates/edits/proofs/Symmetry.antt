-- Transforming b and a gives the sides of transforming a and b, swapped: no answer depends on who asks.
use native.Mathlib.Nat.{min_comm}
use mathlib.Core.Path.{◌≡◌, refl, sym, ap, ap₂, ◌∙◌}
use mathlib.Core.List.{List, [], ◌∷◌, ◌++◌, map, map-map}
use Prim.Native.Nat.{ℕ}
use native.Mathlib.Omega.{arith}
use mathlib.Core.Bool.{Bool, true, false, cond}
use lib.Dec.{ltb}
use borrow.Author.Tests.{ltb-true}
use Rattle.std.specs.declared.cmp.Ordering.{Ordering}
use Rattle.std.specs.declared.cmp.Ordering.TheVariants.{Less, Equal, Greater}
use Rattle.characters.specs.Order.{order, byte_order}
use Rattle.characters.specs.Text.{Char, bytes}
use Rattle.edits.specs.Align.{Turn, first, second, together, Step, one, two, both, step, align, steps, each}
use Rattle.edits.specs.Op.{Op, retain, insert, delete, size}
use Rattle.edits.specs.Build.{build}
use Rattle.edits.specs.Transform.{lesser, Sides, transform_turn, lefts, rights, transform_by}
use Rattle.edits.proofs.Aligning.{steps_step, steps_rule}

abbrev pub flip : Ordering → Ordering
flip Less = Greater
flip Equal = Equal
flip Greater = Less

abbrev pub other : Turn → Turn
other first = second
other second = first
other together = together

module _ {C : Type 0} where
  abbrev pub swapped : Sides C → Sides C
  swapped s = record { left = s.right; right = s.left }

  abbrev mirror : Step C → Step C
  mirror (one o) = two o
  mirror (two p) = one p
  mirror (both o p) = both p o

  step_mirror : (w : Turn) (o p : Op C) (a b : List (Op C)) → let s = step w o p a b in step (other w) p o b a ≡ (mirror s.0, s.2, s.1)
  unfolding step
  step_mirror first o p a b = refl
  step_mirror second o p a b = refl
  step_mirror together o p a b = rw (min_comm (size p) (size o))

  -- where one sequence has ended
  mirror_ones : (turn : Op C → Op C → Turn) (a : List (Op C)) → steps turn [] a ≡ map mirror (map one a)
  unfolding steps align
  mirror_ones turn a = sym (map-map mirror one a)

  mirror_twos : (turn : Op C → Op C → Turn) (b : List (Op C)) → steps turn b [] ≡ map mirror (map two b)
  unfolding steps align
  mirror_twos turn [] = refl
  mirror_twos turn (p ∷ b) = sym (map-map mirror two (p ∷ b))

  lefts_mirror : (tie : List C → List (Op C)) (w : Step C) → lefts tie (mirror w) ≡ rights tie w
  lefts_mirror tie (one o) = refl
  lefts_mirror tie (two p) = refl
  lefts_mirror tie (both o p) = refl

  rights_mirror : (tie : List C → List (Op C)) (w : Step C) → rights tie (mirror w) ≡ lefts tie w
  rights_mirror tie (one o) = refl
  rights_mirror tie (two p) = refl
  rights_mirror tie (both o p) = refl

  each_mirror : (g h : Step C → List (Op C)) → ((w : Step C) → g (mirror w) ≡ h w) → (s : List (Step C)) → each g (map mirror s) ≡ each h s
  each_mirror g h e [] = refl
  each_mirror g h e (w ∷ s) = ap₂ ◌++◌ (e w) (each_mirror g h e s)

  module _ (order : List C → List C → Ordering) (flips : (s t : List C) → order t s ≡ flip (order s t)) where
    pub turns_flip : (o p : Op C) → transform_turn order p o ≡ other (transform_turn order o p)
    turns_flip (insert s) (insert t) = ap lesser (flips s t) ∙ go (order s t)
      where
        go : (w : Ordering) → lesser (flip w) ≡ other (lesser w)
        go Less = refl
        go Equal = refl
        go Greater = refl
    turns_flip (insert s) (retain m) = refl
    turns_flip (insert s) (delete m) = refl
    turns_flip (retain n) (insert t) = refl
    turns_flip (delete n) (insert t) = refl
    turns_flip (retain n) (retain m) = refl
    turns_flip (retain n) (delete m) = refl
    turns_flip (delete n) (retain m) = refl
    turns_flip (delete n) (delete m) = refl

    steps_mirror : (a b : List (Op C)) → steps (transform_turn order) b a ≡ map mirror (steps (transform_turn order) a b)
    steps_mirror =
        let turn = transform_turn order in
        steps_rule turn (λ a b s. steps turn b a ≡ map mirror s) (mirror_twos turn) (mirror_ones turn)
        (λ o p a b w e.
        let s = step (turn o p) o p a b in
        let m : step (turn p o) p o b a ≡ (mirror s.0, s.2, s.1) = ap (λ v. step v p o b a) (turns_flip o p) ∙ step_mirror (turn o p) o p a b in
        steps_step turn p o b a ∙ ap (λ q. q.0 ∷ steps turn q.1 q.2) m ∙ ap (λ r. mirror s.0 ∷ r) e)

    pub transform_swaps : (tie : List C → List (Op C)) (a b : List (Op C)) → transform_by tie order b a ≡ swapped (transform_by tie order a b)
    unfolding transform_by
    transform_swaps tie a b =
        let s = steps (transform_turn order) a b in
        let e = steps_mirror a b in
        λ i. record {
          left = build ((ap (each (lefts tie)) e ∙ each_mirror (lefts tie) (rights tie) (lefts_mirror tie) s) i);
          right = build ((ap (each (rights tie)) e ∙ each_mirror (rights tie) (lefts tie) (rights_mirror tie) s) i);
        }

-- ---- the byte order

byte_flips : (s t : List ℕ) → byte_order t s ≡ flip (byte_order s t)
byte_flips [] [] = refl
byte_flips [] (y ∷ t) = refl
byte_flips (x ∷ s) [] = refl
byte_flips (x ∷ s) (y ∷ t) = go (ltb x y) (ltb y x) refl refl (byte_flips s t)
  where
    go : (l g : Bool) → ltb x y ≡ l → ltb y x ≡ g → byte_order t s ≡ flip (byte_order s t)
        → cond g Less (cond l Greater (byte_order t s)) ≡ flip (cond l Less (cond g Greater (byte_order s t)))
    go true true p q e = absurd (omega (arith, ltb-true x y p, ltb-true y x q))
    go true false p q e = refl
    go false true p q e = refl
    go false false p q e = e

pub order_flips : (s t : List Char) → order t s ≡ flip (order s t)
unfolding order
order_flips s t = byte_flips (bytes s) (bytes t)
