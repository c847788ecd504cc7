use native.Mathlib.Omega.{arith}
use Rattle.places.proofs.Writing.{count_all, flush_all, fits_ret, fits_few, fits_three}
use borrow.Author.Rules.{rules}
use Rattle.places.proofs.inner.flush.Goals as goal

pub write_group-requires : goal.write_group-requires
write_group-requires c = (search rules, search rules, search fits_ret, search fits_few, search fits_three)

pub returns : goal.returns
returns c = (search count_all, omega arith, search flush_all)
