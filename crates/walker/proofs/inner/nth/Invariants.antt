use Rattle.std.specs.Prelude.{◌≡◌}
use Rattle.walker.specs.Walk.{position_after}
use Rattle.walker.proofs.inner.nth.Given as goal

abbrev pub invariant-loop-i : goal.invariant-loop-i
invariant-loop-i l = (l.w.rec.now ≡ l.rec) × (l.w.at ≡ position_after l.rec l._i)
