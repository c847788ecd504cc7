use native.Mathlib.Omega.{arith}
use Rattle.places.proofs.Writing.{some_is}
use Rattle.places.proofs.inner.one_if_any.Goals as goal

pub returns-else-c-eq0 : goal.returns-else-c-eq0
returns-else-c-eq0 c = (search some_is, omega arith)
