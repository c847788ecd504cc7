-- Compose and transform go "in steps over the two front records". Here is what they share.
use Prim.Native.Nat.{ℕ, zero, suc, ◌+◌, min}
use mathlib.Core.List.{List, [], ◌∷◌, ◌++◌, map}
use Rattle.std.proofs.Math.ListN.{length}
use Rattle.edits.specs.Op.{Op, size, cut, rest, front}

-- a step uses an operation of the first sequence, one of the second, or as many characters of both
pub data Step (C : Type 0) : Type 0 where
  one : Op C → Step C
  two : Op C → Step C
  both : Op C → Op C → Step C

-- whose turn it is
pub data Turn : Type 0 where
  first second together : Turn

module _ {C : Type 0} where
  -- a step, and what it leaves of the two sequences: "each whole in a step of its own. Otherwise one step uses up the lesser
  -- of the two character counts on both sides, and a remainder stays in front"
  unfoldable pub step : Turn → Op C → Op C → List (Op C) → List (Op C) → Step C × List (Op C) × List (Op C)
  step first o p a b = (one o, a, p ∷ b)
  step second o p a b = (two p, o ∷ a, b)
  step together o p a b =
      let k = min (size o) (size p) in (both (cut k o) (cut k p), front (rest k o) a, front (rest k p) b)

  -- where one sequence ends, what is left of the other goes by itself
  unfoldable pub align : (Op C → Op C → Turn) → ℕ → List (Op C) → List (Op C) → List (Step C)
  unfolding step
  align turn zero a b = []
  align turn (suc f) [] b = map two b
  align turn (suc f) (o ∷ a) [] = map one (o ∷ a)
  align turn (suc f) (o ∷ a) (p ∷ b) =
      let s = step (turn o p) o p a b in s.0 ∷ align turn f s.1 s.2

  -- every step finishes a front operation, so there are fewer steps than this
  unfoldable pub steps : (Op C → Op C → Turn) → List (Op C) → List (Op C) → List (Step C)
  unfolding align
  steps turn a b = align turn (suc (length a + length b)) a b

  -- what the steps give, one after the other
  abbrev pub each : (Step C → List (Op C)) → List (Step C) → List (Op C)
  each g [] = []
  each g (w ∷ s) = g w ++ each g s
