-- Where both records are ready for a step, so is each of them by itself.
use Rattle.std.specs.Prelude.{ℕ, ◌<◌, List}
use Rattle.steps.specs.declared.inner.Both.{Both}
use Rattle.steps.specs.InnerSteps.{Operands}
use Rattle.steps.specs.InnerBoth.{Fed, ReadyBoth}

module _ {na nb m n : ℕ} {a b : List ℕ} {s : Both} {o w : List ℕ} (p : Operands na nb a b) (r : ReadyBoth m n a b s o w) where
  pub fed_left : 0 < s.x.kind → Fed na m a s.x s o
  fed_left h = record { count = p.count_a; slots_few = r.slots_left; under_e = r.under_e; under_f = r.under_f; stands = r.stands_x; live = h; room = r.room_left }

  pub fed_right : 0 < s.y.kind → Fed nb n b s.y s w
  fed_right h = record { count = p.count_b; slots_few = r.slots_right; under_e = r.under_e; under_f = r.under_f; stands = r.stands_y; live = h; room = r.room_right }
