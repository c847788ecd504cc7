-- What `Built` says, operation by operation.
use Prim.Native.Nat.{ℕ, zero, suc, ◌<◌}
use native.Mathlib.Omega.{arith}
use mathlib.Core.Logic.{◌↔◌}
use mathlib.Core.Bool.{true, false}
use lib.Dec.{T}
use mathlib.Core.List.{List, [], ◌∷◌}
use Rattle.buffers.specs.Lists.{all_of}
use Rattle.buffers.proofs.Tests.{both}
use Rattle.edits.specs.Op.{if_zero, Op, size}
use Rattle.edits.specs.Built.{full, next, chained, built, Built}

pub positive : (n : ℕ) → T (if_zero n false true) ↔ (0 < n)
positive zero = (λ h. absurd h, λ h. absurd (omega arith))
positive (suc n) = (λ h. omega arith, λ h. tt)

module _ {C : Type 0} where
  -- link by link
  abbrev pub Links : List (Op C) → Type 0
  Links [] = Unit {0}
  Links (o ∷ s) = (0 < size o) × T (next o s) × Links s

  links : (s : List (Op C)) → T (all_of full s) → T (chained s) → Links s
  links [] f c = tt
  links (o ∷ s) f c =
      let (g, fs) = (both (full o) (all_of full s)).0 f in
      let (n, cs) = (both (next o s) (chained s)).0 c in
      ((positive (size o)).0 g, n, links s fs cs)

  pub built_links : (s : List (Op C)) → Built s → Links s
  unfolding built
  built_links s h = let (f, c) = (both (all_of full s) (chained s)).0 h in links s f c

  links_full : (s : List (Op C)) → Links s → T (all_of full s)
  links_full [] h = tt
  links_full (o ∷ s) h = (both (full o) (all_of full s)).1 ((positive (size o)).1 h.0, links_full s h.2)

  links_chained : (s : List (Op C)) → Links s → T (chained s)
  links_chained [] h = tt
  links_chained (o ∷ s) h = (both (next o s) (chained s)).1 (h.1, links_chained s h.2)

  pub links_built : (s : List (Op C)) → Links s → Built s
  unfolding built
  links_built s h = (both (all_of full s) (chained s)).1 (links_full s h, links_chained s h)
