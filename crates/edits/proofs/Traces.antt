-- What transform leaves of the characters: A' deletes what A deletes and B does not, and nothing that B typed.
use mathlib.Core.Path.{◌≡◌, sym, ap, refl, ap₂, ◌∙◌}
use mathlib.Core.Bool.{true, Bool, false}
use mathlib.Core.List.{List, [], ◌++◌, ◌∷◌}
use Prim.Native.Nat.{ℕ, zero, suc, min}
use lib.ListN.{take, replicate, length-replicate, length}
use lib.Seq.{take_at}
use native.Mathlib.Omega.{arith}
use native.Mathlib.Nat.{suc-ne-zero}
use Rattle.std.specs.declared.cmp.Ordering.{Ordering}
use Rattle.std.specs.declared.cmp.Ordering.TheVariants.{Less, Equal, Greater}
use Rattle.edits.specs.Op.{Op, base, retain, insert, delete, takes, gives}
use Rattle.edits.specs.Trace.{stays, carry}
use Rattle.edits.specs.Align.{Step, one, two, step, steps, each}
use Rattle.edits.specs.Transform.{lesser, transform_turn, lefts, rights, keep_both, transform_by}
use Rattle.edits.proofs.Building.{build_same}
use Rattle.edits.proofs.Composing.{total_append}
use Rattle.edits.proofs.Aligning.{ones, twos, All, steps_ones, steps_twos, Sound, steps_sound}
use Rattle.edits.proofs.Marks.{stays_none, stays_lasts, stays_append, stays_length, carry_lasts, carry_append}

-- `l` is what `a` becomes past `b`, and `r` what `b` becomes past `a`: of the characters that stand there, each keeps what the
-- edit that it comes from keeps, and all that the other typed
pub record Moves {C : Type 0} (a b l r : List (Op C)) : Type 0 where
  pub even : base a ≡ base b
  pub left : stays l ≡ carry true b (stays a)
  pub right : stays r ≡ carry true a (stays b)

kept_whole : (n : ℕ) (m : Bool) → replicate n m ++ [] ≡ take n (replicate n m ++ []) ++ []
kept_whole n m = ap (λ l. l ++ []) (sym (take_at (replicate n m) [] n (length-replicate n m)))

module _ {C : Type 0} where
  moves_nil : Moves {C = C} [] [] [] []
  moves_nil = record { even = refl; left = refl; right = refl }

  pasted : (a b l a' b' l' : List (Op C)) → base a ≡ base b → stays l ≡ carry true b (stays a) → stays l' ≡ carry true b' (stays a')
      → stays (l ++ l') ≡ carry true (b ++ b') (stays (a ++ a'))
  pasted a b l a' b' l' e p q =
      stays_append l l' ∙ ap₂ ◌++◌ p q ∙ sym (carry_append true b b' (stays a) (stays a') (stays_length a ∙ e))
      ∙ ap (carry true (b ++ b')) (sym (stays_append a a'))

  moves_append : (a b l r a' b' l' r' : List (Op C)) → Moves a b l r → Moves a' b' l' r' → Moves (a ++ a') (b ++ b') (l ++ l') (r ++ r')
  moves_append a b l r a' b' l' r' p q = record {
    even = simp total_append (omega (arith, p.even, q.even));
    left = pasted a b l a' b' l' p.even p.left q.left;
    right = pasted b a r b' a' r' (sym p.even) p.right q.right;
  }

  -- ---- a step
  kept_new : (o : Op C) → takes o ≡ 0 → stays {C = C} (retain (gives o) ∷ []) ≡ carry true (o ∷ []) []
  kept_new (retain zero) e = refl
  kept_new (retain (suc n)) e = absurd (suc-ne-zero _ e)
  kept_new (insert s) e = refl
  kept_new (delete n) e = refl

  module _ (tie : List C → List (Op C)) (tied : (s : List C) → stays (tie s) ≡ replicate (length s) true ++ []) where
    abbrev Moving : Step C → Type 0
    Moving w = Moves (ones w) (twos w) (lefts tie w) (rights tie w)

    moves_one : (o : Op C) → takes o ≡ 0 → Moving (one o)
    moves_one o e = record { even = omega arith; left = rw (stays_none o e); right = kept_new o e }

    moves_two : (p : Op C) → takes p ≡ 0 → Moving (two p)
    moves_two p e = record { even = omega arith; left = kept_new p e; right = rw (stays_none p e) }

    module _ (order : List C → List C → Ordering) (order_equal : (s t : List C) → order s t ≡ Equal → s ≡ t) where
      moves_turns : (o p : Op C) (a b : List (Op C)) → Moving (step (transform_turn order o p) o p a b).0
      unfolding step
      moves_turns (insert s) (insert t) a b = go (order s t) refl
        where
          go : (w : Ordering) → order s t ≡ w → Moving (step (lesser w) (insert s) (insert t) a b).0
          go Less e = moves_one (insert s) refl
          go Equal e = rw (order_equal s t e) (record { even = refl; left = tied _; right = tied _ })
          go Greater e = moves_two (insert t) refl
      moves_turns (insert s) (retain m) a b = moves_one (insert s) refl
      moves_turns (insert s) (delete m) a b = moves_one (insert s) refl
      moves_turns (retain n) (insert t) a b = moves_two (insert t) refl
      moves_turns (delete n) (insert t) a b = moves_two (insert t) refl
      moves_turns (retain n) (retain m) a b = record { even = refl; left = kept_whole (min n m) true; right = kept_whole (min n m) true }
      moves_turns (retain n) (delete m) a b = record { even = refl; left = refl; right = kept_whole (min n m) false }
      moves_turns (delete n) (retain m) a b = record { even = refl; left = kept_whole (min n m) false; right = refl }
      moves_turns (delete n) (delete m) a b = record { even = refl; left = refl; right = refl }

      moves_sound : Sound (transform_turn order) takes Moving
      moves_sound = record { counts = λ s s' e. ap (λ m. m.before) e; even = λ w h. h.even; end_one = moves_one; end_two = moves_two; turns = moves_turns }

      all_move : (s : List (Step C)) → All Moving s → Moves (each ones s) (each twos s) (each (lefts tie) s) (each (rights tie) s)
      all_move [] h = moves_nil
      all_move (w ∷ s) h = moves_append (ones w) (twos w) (lefts tie w) (rights tie w) _ _ _ _ h.0 (all_move s h.1)

      pub transform_moves : (a b : List (Op C)) → base a ≡ base b → let s = transform_by tie order a b in Moves a b s.left s.right
      unfolding transform_by
      transform_moves a b e =
          let turn = transform_turn order in
          let s = steps turn a b in
          let h = all_move s (steps_sound turn takes Moving moves_sound a b e) in
          record {
            even = e;
            left = build_same stays stays_lasts (each (lefts tie) s) ∙ h.left
                ∙ ap₂ (λ f ms. f ms) (steps_twos (carry true) (carry_lasts true) turn a b) (steps_ones stays stays_lasts turn a b);
            right = build_same stays stays_lasts (each (rights tie) s) ∙ h.right
                ∙ ap₂ (λ f ms. f ms) (steps_ones (carry true) (carry_lasts true) turn a b) (steps_twos stays stays_lasts turn a b);
          }

  -- of equal inserts that are both kept, either side keeps the other's
  pub keep_both_stays : (s : List C) → stays (keep_both s) ≡ replicate (length s) true ++ []
  keep_both_stays s = refl
