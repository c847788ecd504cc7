-- What the functions below `transform` promise each other. No entry's contract cites this.
use Rattle.std.specs.Prelude.{◌≡◌, ℕ, min, cond, List, [], ◌∷◌, ◌==◌}
use Rattle.edits.specs.Op.{gives, cut}
use Rattle.edits.specs.Transform.{past, keep_both}
use Rattle.record.specs.declared.inner.Front.{Front}
use Rattle.record.specs.Layout.{delete_kind}
use Rattle.record.specs.InnerFront.{front_op, Leaves}
use Rattle.emitter.specs.InnerEmit.{Adds, Retains}
use Rattle.steps.specs.declared.inner.State.{State}

abbrev pub gives_of : Front → ℕ
gives_of f = cond (f.kind == delete_kind) 0 f.left

-- the first's operation went by itself
pub record FirstWent (n : ℕ) (a : List ℕ) (s : State) (o : List ℕ) (r : State) (o' : List ℕ) : Type 0 where
  pub x : Leaves a s.x s.x.left r.x
  pub y : r.y ≡ s.y
  pub adds : Adds n (front_op a s.x ∷ []) s.e o r.e o'

-- the second's
pub record SecondWent (b : List ℕ) (s r : State) : Type 0 where
  pub x : r.x ≡ s.x
  pub y : Leaves b s.y s.y.left r.y
  pub retains : Retains (gives (front_op b s.y)) s.e r.e

-- as many characters of both
pub record BothWent (n : ℕ) (a b : List ℕ) (s : State) (o : List ℕ) (r : State) (o' : List ℕ) : Type 0 where
  pub k : ℕ
  pub lesser : k ≡ min s.x.left s.y.left
  pub x : Leaves a s.x k r.x
  pub y : Leaves b s.y k r.y
  pub adds : Adds n (past keep_both (cut k (front_op b s.y)) (cut k (front_op a s.x))) s.e o r.e o'
