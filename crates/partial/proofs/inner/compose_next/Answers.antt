use Rattle.std.proofs.lemmas.Result.{err_from_is_err_and}
use Rattle.partial.proofs.Holding.{step_room, step_refused, step_written}
use borrow.Author.Rules.{rules}
use Rattle.partial.proofs.inner.compose_next.Goals as goal

pub copy-requires : goal.copy-requires
copy-requires c = (search rules, search rules, search (step_room, c.in_ok-k.was))

pub returns-in_err-k : goal.returns-in_err-k
returns-in_err-k c = let p = err_from_is_err_and c.from_residual.result c.from_residual.ensures.1 in rw (p.1, p.2) (search (step_refused, c.in_err-k.was))

pub returns : goal.returns
returns c = search (step_written, c.in_ok-k.was)
