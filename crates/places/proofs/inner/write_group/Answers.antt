use native.Mathlib.Omega.{arith}
use Rattle.places.proofs.Writing.{close_count, close_all}
use Rattle.places.proofs.inner.write_group.Goals as goal

pub returns : goal.returns
returns c = (search close_count, omega arith, search close_all)
