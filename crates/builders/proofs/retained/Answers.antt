use Rattle.std.proofs.lemmas.Result.{err_from_is_err_and}
use Rattle.builders.proofs.Extending.{before_few, text_room, more_refused, more_written}
use borrow.Author.Rules.{rules}
use Rattle.builders.proofs.retained.Goals as goal

pub returns-in_err-b : goal.returns-in_err-b
returns-in_err-b c = let p = err_from_is_err_and c.from_residual.result c.from_residual.ensures.1 in rw (p.1, p.2) (search (more_refused, c.in_err-b.was))

pub relocate-requires : goal.relocate-requires
relocate-requires c = (search rules, search rules, search before_few, search text_room)

pub returns : goal.returns
returns c = search (more_written, c.in_ok-b.was)
