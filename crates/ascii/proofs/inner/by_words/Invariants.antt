use Prim.Native.Nat.{◌-◌}
use lib.ListN.{length}
use Rattle.characters.specs.InnerAscii.{Runs}
use Rattle.ascii.proofs.inner.by_words.Given as goal

abbrev pub invariant-loop-i : goal.invariant-loop-i
invariant-loop-i g l = Runs l.text l.at l.i

abbrev pub decreases-loop-i : goal.decreases-loop-i
decreases-loop-i g l = length l.text - l.i
