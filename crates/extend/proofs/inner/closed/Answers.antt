use native.Mathlib.Omega.{arith}
use Rattle.extend.proofs.Settling.{closes}
use Rattle.extend.proofs.inner.closed.Goals as goal

pub returns : goal.returns
returns c = (search closes, omega arith)
