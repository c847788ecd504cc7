use Rattle.std.specs.Prelude.{◌≡◌, ◌-◌, length}
use Rattle.invert_in_place.specs.InnerInverting.{Undone}
use Rattle.invert_in_place.proofs.inner.write_in_place.Given as goal

abbrev pub invariant-loop-s : goal.invariant-loop-s
invariant-loop-s l = Undone l.count l.rec l.text l.initial.out l.s l.out × (length l.out ≡ length l.initial.out)

abbrev pub decreases-loop-s : goal.decreases-loop-s
decreases-loop-s l = l.count - l.s.k
