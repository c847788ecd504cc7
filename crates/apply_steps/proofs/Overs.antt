-- A text that is laid over a buffer part by part.
use Rattle.std.specs.Prelude.{◌≡◌, ℕ, ◌+◌, ◌-◌, ◌≤◌, List, ◌++◌, length, take, drop}
use native.Mathlib.Nat.{zero-add}
use native.Mathlib.Omega.{arith}
use mathlib.Core.Path.{sym, ap, ◌∙◌}
use lib.Seq.{length-take-le, take-add, take-length}
use Rattle.buffers.specs.InnerOver.{over}
use Rattle.buffers.proofs.Over.{over_join}

module _ (w o : List ℕ) where
  pub laid_more : (a b : ℕ) {o₁ o₂ : List ℕ} → a ≤ length w → a ≤ b → o₁ ≡ over 0 (take a w) o → o₂ ≡ over a (take (b - a) (drop a w)) o₁ → o₂ ≡ over 0 (take b w) o
  laid_more a b h g p q =
      let x = take a w in
      let y = take (b - a) (drop a w) in
      let l : 0 + length x ≡ a = zero-add _ ∙ length-take-le a w h in
      let m : a + (b - a) ≡ b = omega arith in
      let t : x ++ y ≡ take b w = sym (take-add a (b - a) w) ∙ ap (λ i. take i w) m in
      q ∙ ap (over a y) p ∙ ap (λ i. over i y (over 0 x o)) (sym l) ∙ over_join 0 x y o ∙ ap (λ i. over 0 i o) t

  pub laid_all : (a : ℕ) {o₁ : List ℕ} → a ≡ length w → o₁ ≡ over 0 (take a w) o → o₁ ≡ over 0 w o
  laid_all a e p = p ∙ ap (λ i. over 0 (take i w) o) e ∙ ap (λ x. over 0 x o) (take-length w)
