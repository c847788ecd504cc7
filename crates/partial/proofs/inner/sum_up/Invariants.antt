use Rattle.std.specs.Prelude.{◌≡◌, length}
use Rattle.partial.proofs.Summing.{Summing}
use Rattle.partial.proofs.inner.sum_up.Given as goal

abbrev pub invariant-loop-k : goal.invariant-loop-k
invariant-loop-k l = (length l.cur ≡ length l.initial.cur) × (length l.next ≡ length l.initial.next) × Summing l.log l._k l.at l.size l.cur
