use Rattle.session_log.specs.InnerSteps.{Passing}
use Rattle.session_log.proofs.inner.go_through.Given as goal

abbrev pub invariant-loop-k : goal.invariant-loop-k
invariant-loop-k l = Passing l.log l.r l.k l.here l.mark
