use Rattle.std.specs.Prelude.{◌-◌, length}
use Rattle.json_texts.proofs.Moves.{Between}
use Rattle.json_texts.proofs.inner.copy_texts.Given as goal

abbrev pub invariant-loop-k : goal.invariant-loop-k
invariant-loop-k l = Between l.list l.initial.out l.at l.i l.to l.out

abbrev pub decreases-loop-k : goal.decreases-loop-k
decreases-loop-k l = length l.list - l.i
