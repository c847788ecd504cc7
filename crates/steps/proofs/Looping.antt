-- The loop over both sides.
use Rattle.std.specs.Prelude.{◌≡◌, ℕ, ◌+◌, ◌^◌, ◌<◌, Bool, false, not, eqb, List, reverse, length}
use mathlib.Core.Path.{sym, ap, ◌∙◌, subst}
use mathlib.Core.Bool.{and_comm}
use Rattle.characters.specs.Order.{order}
use Rattle.edits.specs.Transform.{transform_turn, keep_both, lefts, transform}
use Rattle.edits.specs.Sequence.{Seq}
use Rattle.edits.proofs.Theorems.{transform_swaps}
use Rattle.record.specs.Record.{ops, record_fault}
use Rattle.record.specs.InnerFront.{ahead}
use Rattle.emitter.specs.declared.inner.Emitter.{Emitter}
use Rattle.emitter.specs.InnerEmit.{Done, Finishes, Under}
use Rattle.emitter.proofs.Loops.{transform_runs}
use Rattle.steps.specs.declared.inner.State.{State}
use Rattle.steps.specs.InnerSteps.{live_is}
use Rattle.steps.specs.declared.inner.Both.{Both}
use Rattle.steps.specs.InnerBoth.{mine, theirs, BegunBoth, WentBoth, DoneBoth}
use Rattle.steps.specs.declared.inner.Pair.{Pair}
use Rattle.steps.proofs.Going.{Going, going_all, going_start, going_under, going_more}

-- ---- one side

going_done : (n : ℕ) (a b out0 : List ℕ) (s : State) (o : List ℕ) (v : Bool) (r : Emitter) (o' : List ℕ) → Going (transform_turn order) (lefts keep_both) n a b out0 s o → v ≡ live_is s.x s.y → v ≡ false
    → Finishes n s.e o r o' → Done n (transform order (ops a) (ops b)).left out0 r o'
unfolding transform
going_done n a b out0 s o v r o' g w l f =
    let e : (transform order (ops a) (ops b)).left ≡ reverse g.acc =
    ap (λ t. t.left) (transform_runs keep_both order (ops a) (ops b)) ∙ ap reverse (sym (going_all (transform_turn order) (lefts keep_both) n a b out0 s o g (sym w ∙ l))) in
    subst (λ t. Done n t out0 r o') (sym e) (f.done out0 g.acc g.rep)

-- the right side is the left of the two exchanged
right_is : (a b : Seq) → (transform order b a).left ≡ (transform order a b).right
right_is a b = ap (λ s. s.left) (transform_swaps a b)

-- ---- both

pub record GoingBoth (m n : ℕ) (a b o₀ w₀ : List ℕ) (s : Both) (o w : List ℕ) : Type 0 where
  pub left : Going (transform_turn order) (lefts keep_both) m a b o₀ (mine s) o
  pub right : Going (transform_turn order) (lefts keep_both) n b a w₀ (theirs s) w

pub both_start : (m n : ℕ) (a b o w : List ℕ) (s : Both) → record_fault a ≡ 0 → record_fault b ≡ 0 → BegunBoth a b s → GoingBoth m n a b o w s o w
both_start m n a b o w s za zb h =
    record {
      left = going_start (transform_turn order) (lefts keep_both) m a b o (mine s) za zb h.left;
      right = going_start (transform_turn order) (lefts keep_both) n b a w (theirs s) zb za h.right;
    }

module _ (m n : ℕ) (a b o₀ w₀ : List ℕ) (s : Both) (o w : List ℕ) (g : GoingBoth m n a b o₀ w₀ s o w) where
  pub left_under : Under (2 ^ 38) s.e
  left_under = going_under (transform_turn order) (lefts keep_both) m a b o₀ (mine s) o g.left

  pub right_under : Under (2 ^ 38) s.f
  right_under = going_under (transform_turn order) (lefts keep_both) n b a w₀ (theirs s) w g.right

  pub both_more : (r : Both) (o' w' : List ℕ) → WentBoth m n a b s o w r o' w' → GoingBoth m n a b o₀ w₀ r o' w'
  both_more r o' w' t =
      record {
        left = going_more (transform_turn order) (lefts keep_both) m a b o₀ (mine s) o g.left (mine r) o' t.left;
        right = going_more (transform_turn order) (lefts keep_both) n b a w₀ (theirs s) w g.right (theirs r) w' t.right;
      }

  pub both_done : (v : Bool) → v ≡ live_is s.x s.y → v ≡ false → (p : Pair) (o' w' : List ℕ) → Finishes m s.e o p.e o' → Finishes n s.f w p.f w' → DoneBoth m n (transform order (ops a) (ops b)) o₀ w₀ p o' w'
  both_done v e z p o' w' f k =
      let u : v ≡ live_is s.y s.x = e ∙ ap not (and_comm (eqb s.x.kind 0) (eqb s.y.kind 0)) in
      record {
        left = going_done m a b o₀ (mine s) o v p.e o' g.left e z f;
        right = subst (λ t. Done n t w₀ p.f w') (right_is (ops a) (ops b)) (going_done n b a w₀ (theirs s) w v p.f w' g.right u z k);
      }

pub went_less : (m n : ℕ) (a b : List ℕ) (s r : Both) (o w o' w' : List ℕ) → WentBoth m n a b s o w r o' w' → length (ahead a r.x) + length (ahead b r.y) < length (ahead a s.x) + length (ahead b s.y)
went_less m n a b s r o w o' w' g = g.left.less
