use Rattle.std.specs.Prelude.{◌≡◌, ◌-◌, length}
use Rattle.json_read.proofs.Listing.{Going}
use Rattle.json_read.proofs.inner.read_values.Given as goal

abbrev pub invariant-loop-x : goal.invariant-loop-x
invariant-loop-x l = Going l.n l.list l.at l.initial.out l.i l.e l.out × (length l.out ≡ length l.initial.out)

abbrev pub decreases-loop-x : goal.decreases-loop-x
decreases-loop-x l = length l.list - l.i
