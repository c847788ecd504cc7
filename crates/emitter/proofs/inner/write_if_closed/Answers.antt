use Rattle.places.proofs.Writing.{fits_ret, fits_few, fits_three}
use Rattle.emitter.proofs.Emitting.{spilled_again}
use borrow.Author.Rules.{rules}
use Rattle.emitter.proofs.inner.write_if_closed.Goals as goal

pub write_group-requires : goal.write_group-requires
write_group-requires c = (search rules, search rules, search fits_ret, search fits_few, search fits_three)

pub returns-then-group_fits : goal.returns-then-group_fits
returns-then-group_fits c = search (spilled_again, fits_ret)
