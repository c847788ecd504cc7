use Rattle.std.specs.Prelude.{◌-◌}
use Rattle.json_write.proofs.Lists.{ListLeft}
use Rattle.json_write.proofs.inner.write_list.Given as goal

abbrev pub invariant-loop-s : goal.invariant-loop-s
invariant-loop-s l = ListLeft l.rec l.initial.s l.initial.out l.s l.out

abbrev pub decreases-loop-s : goal.decreases-loop-s
decreases-loop-s l = l.n - l.s.k
