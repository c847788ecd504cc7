use Rattle.std.specs.Prelude.{◌≡◌, length, take}
use Rattle.playback_steps.specs.InnerStages.{Stage}
use Rattle.playback_steps.proofs.inner.play_revisions.Given as goal

abbrev pub invariant-loop-k : goal.invariant-loop-k
invariant-loop-k l =
    Stage l.log l.j (take l.n l.initial.a) (length l.initial.a) (length l.initial.b) l._k l.at l.len l.a × (length l.a ≡ length l.initial.a) × (length l.b ≡ length l.initial.b)
