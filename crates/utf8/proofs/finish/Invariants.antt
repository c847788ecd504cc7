use Rattle.std.specs.Prelude.{◌-◌, length}
use Rattle.characters.specs.InnerPassed.{Passed}
use Rattle.utf8.proofs.finish.Given as goal

abbrev pub invariant-loop-i : goal.invariant-loop-i
invariant-loop-i l = Passed l.text l.i l.conts

abbrev pub decreases-loop-i : goal.decreases-loop-i
decreases-loop-i l = length l.text - l.i
