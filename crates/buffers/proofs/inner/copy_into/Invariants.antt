use Rattle.std.proofs.Common.{◌≡◌}
use lib.Seq.{paste}
use Rattle.buffers.proofs.inner.copy_into.Given as goal

abbrev pub invariant-loop-j : goal.invariant-loop-j
invariant-loop-j l = l.dst ≡ paste l.initial.dst l.at l.src l.j
