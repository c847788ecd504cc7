-- The steps of compose and transform: what they use is the two sequences, and each step is sound.
use Prim.Native.Nat.{ℕ, zero, suc, ◌+◌, ◌≤◌, ◌<◌, min}
use native.Mathlib.Omega.{arith}
use mathlib.Core.Path.{◌≡◌, refl, ap, ◌∙◌, sym}
use mathlib.Core.List.{List, [], ◌∷◌, ◌++◌, map}
use lib.ListN.{length}
use Rattle.edits.specs.Op.{Op, size, cut, rest, front, takes, total, base}
use Rattle.edits.specs.Align.{Step, one, two, both, Turn, first, second, together, step, align, steps, each}
use Rattle.edits.proofs.Meaning.{Lasting, behind_all, cut_rest, front_same, size_rest, length_front, mean, mean_lasts}
use Rattle.edits.proofs.Composing.{Composes, composes_nil, composes_append, total_append}

module _ {C : Type 0} where
  -- what a step uses of either sequence
  abbrev pub ones : Step C → List (Op C)
  ones (one o) = o ∷ []
  ones (two p) = []
  ones (both o p) = o ∷ []

  abbrev pub twos : Step C → List (Op C)
  twos (one o) = []
  twos (two p) = p ∷ []
  twos (both o p) = p ∷ []

  -- a step finishes a front operation
  pub step_shorter : (w : Turn) (o p : Op C) (a b : List (Op C)) → let s = step w o p a b in length s.1 + length s.2 < length (o ∷ a) + length (p ∷ b)
  unfolding step
  step_shorter first o p a b = omega arith
  step_shorter second o p a b = omega arith
  step_shorter together o p a b = simp length_front (simp size_rest (omega arith))

  -- any count above the two lengths is enough, so `steps` goes step by step
  align_enough : (turn : Op C → Op C → Turn) (f g : ℕ) (a b : List (Op C)) → length a + length b < f → length a + length b < g
      → align turn f a b ≡ align turn g a b
  unfolding align
  align_enough turn zero g a b l m = absurd (omega arith)
  align_enough turn (suc f) zero a b l m = absurd (omega arith)
  align_enough turn (suc f) (suc g) [] b l m = refl
  align_enough turn (suc f) (suc g) (o ∷ a) [] l m = refl
  align_enough turn (suc f) (suc g) (o ∷ a) (p ∷ b) l m =
      let s = step (turn o p) o p a b in
      let h = step_shorter (turn o p) o p a b in
      ap (λ r. s.0 ∷ r) (align_enough turn f g s.1 s.2 (omega arith) (omega arith))

  pub steps_step : (turn : Op C → Op C → Turn) (o p : Op C) (a b : List (Op C))
      → let s = step (turn o p) o p a b in steps turn (o ∷ a) (p ∷ b) ≡ s.0 ∷ steps turn s.1 s.2
  unfolding steps align
  steps_step turn o p a b =
      let s = step (turn o p) o p a b in
      ap (λ r. s.0 ∷ r) (align_enough turn _ (suc (length s.1 + length s.2)) s.1 s.2 (step_shorter (turn o p) o p a b) (omega arith))

  -- so what holds of the steps where one sequence has ended, and goes back over a step, holds of all steps
  pub steps_rule : (turn : Op C → Op C → Turn) (P : List (Op C) → List (Op C) → List (Step C) → Type 0)
      → ((b : List (Op C)) → P [] b (map two b))
      → ((a : List (Op C)) → P a [] (map one a))
      → ((o p : Op C) (a b : List (Op C)) (w : List (Step C)) → let s = step (turn o p) o p a b in P s.1 s.2 w → P (o ∷ a) (p ∷ b) (s.0 ∷ w))
      → (a b : List (Op C)) → P a b (steps turn a b)
  unfolding steps align
  steps_rule turn P no-a no-b more a b = go (suc (length a + length b)) a b (omega arith)
    where
      go : (f : ℕ) (a b : List (Op C)) → length a + length b < f → P a b (align turn f a b)
      go zero a b l = absurd (omega arith)
      go (suc f) [] b l = no-a b
      go (suc f) (o ∷ a) [] l = no-b (o ∷ a)
      go (suc f) (o ∷ a) (p ∷ b) l =
          let s = step (turn o p) o p a b in more o p a b (align turn f s.1 s.2) (go f s.1 s.2 (omega (arith, step_shorter (turn o p) o p a b)))

  abbrev pub All : (Step C → Type 0) → List (Step C) → Type 0
  All P [] = Unit {0}
  All P (w ∷ s) = P w × All P s

  -- ---- what the steps use is the two sequences
  module _ {A : Type 0} (R : List (Op C) → A) (K : Lasting R) where
    used : (k : ℕ) (o : Op C) (s : List (Op C)) → k ≤ size o → R (cut k o ∷ front (rest k o) s) ≡ R (o ∷ s)
    used k o s h = K.behind (cut k o) _ _ (front_same R K (rest k o) s) ∙ cut_rest R K k o s h

    step_one : (w : Turn) (o p : Op C) (a b : List (Op C)) → let s = step w o p a b in R (ones s.0 ++ s.1) ≡ R (o ∷ a)
    unfolding step
    step_one first o p a b = refl
    step_one second o p a b = refl
    step_one together o p a b = used (min (size o) (size p)) o a (omega arith)

    step_two : (w : Turn) (o p : Op C) (a b : List (Op C)) → let s = step w o p a b in R (twos s.0 ++ s.2) ≡ R (p ∷ b)
    unfolding step
    step_two first o p a b = refl
    step_two second o p a b = refl
    step_two together o p a b = used (min (size o) (size p)) p b (omega arith)

    module _ (turn : Op C → Op C → Turn) where
      pub steps_ones : (a b : List (Op C)) → R (each ones (steps turn a b)) ≡ R a
      steps_ones =
          steps_rule turn (λ a b w. R (each ones w) ≡ R a) (λ b. ap R (none b)) (λ a. ap R (all a))
          (λ o p a b w e. behind_all R K (ones (step (turn o p) o p a b).0) _ _ e ∙ step_one (turn o p) o p a b)
        where
          none : (b : List (Op C)) → each ones (map two b) ≡ []
          none [] = refl
          none (p ∷ b) = none b

          all : (a : List (Op C)) → each ones (map one a) ≡ a
          all [] = refl
          all (o ∷ a) = ap (λ s. o ∷ s) (all a)

      pub steps_twos : (a b : List (Op C)) → R (each twos (steps turn a b)) ≡ R b
      steps_twos =
          steps_rule turn (λ a b w. R (each twos w) ≡ R b) (λ b. ap R (all b)) (λ a. ap R (none a))
          (λ o p a b w e. behind_all R K (twos (step (turn o p) o p a b).0) _ _ e ∙ step_two (turn o p) o p a b)
        where
          none : (a : List (Op C)) → each twos (map one a) ≡ []
          none [] = refl
          none (o ∷ a) = none a

          all : (b : List (Op C)) → each twos (map two b) ≡ b
          all [] = refl
          all (p ∷ b) = ap (λ s. p ∷ s) (all b)

  -- compositions step by step are one
  pub paste : (P : Step C → Type 0) (g h k : Step C → List (Op C))
      → ((w : Step C) → P w → Composes (mean (g w)) (mean (h w)) (mean (k w)))
      → (s : List (Step C)) → All P s → Composes (mean (each g s)) (mean (each h s)) (mean (each k s))
  paste P g h k c [] p = composes_nil
  paste P g h k c (w ∷ s) p =
      composes_append (g w) (h w) (k w) (each g s) (each h s) (each k s) (c w p.0) (paste P g h k c s p.1)

-- `P` holds of each step, where the characters that `u` counts in the first sequence are those that the second takes
pub record Sound {C : Type 0} (turn : Op C → Op C → Turn) (u : Op C → ℕ) (P : Step C → Type 0) : Type 0 where
  pub counts : (s s' : List (Op C)) → mean s ≡ mean s' → total u s ≡ total u s'
  pub even : (w : Step C) → P w → total u (ones w) ≡ base (twos w)
  pub end_one : (o : Op C) → u o ≡ 0 → P (one o)
  pub end_two : (p : Op C) → takes p ≡ 0 → P (two p)
  pub turns : (o p : Op C) (a b : List (Op C)) → P (step (turn o p) o p a b).0

module _ {C : Type 0} (turn : Op C → Op C → Turn) (u : Op C → ℕ) (P : Step C → Type 0) (S : Sound turn u P) where
  ends_one : (a : List (Op C)) → total u a ≡ 0 → All P (map one a)
  ends_one [] e = tt
  ends_one (o ∷ a) e = (S.end_one o (omega arith), ends_one a (omega arith))

  ends_two : (b : List (Op C)) → base b ≡ 0 → All P (map two b)
  ends_two [] e = tt
  ends_two (p ∷ b) e = (S.end_two p (omega arith), ends_two b (omega arith))

  pub steps_sound : (a b : List (Op C)) → total u a ≡ base b → All P (steps turn a b)
  steps_sound =
      steps_rule turn (λ a b w. total u a ≡ base b → All P w) (λ b e. ends_two b (sym e)) (λ a e. ends_one a e)
      (λ o p a b w f e.
      let s = step (turn o p) o p a b in
      let h = S.turns o p a b in
      let x = S.counts (ones s.0 ++ s.1) (o ∷ a) (step_one mean mean_lasts (turn o p) o p a b) in
      let y = ap (λ m. m.before) (step_two mean mean_lasts (turn o p) o p a b) in
      (h, f (omega (arith, S.even s.0 h, simp total_append at x, simp total_append at y))))
