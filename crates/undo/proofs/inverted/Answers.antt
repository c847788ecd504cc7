use Rattle.std.proofs.lemmas.Result.{err_from_is_err_and}
use Rattle.invert.proofs.Inverses.{decided_refused, decided_written}
use Rattle.undo.proofs.inverted.Goals as goal

pub returns-in_err-decide : goal.returns-in_err-decide
returns-in_err-decide c = let p = err_from_is_err_and c.from_residual.result c.from_residual.ensures.1 in rw (p.1, p.2) (search (decided_refused, c.in_err-decide.was))

pub returns : goal.returns
returns c = search (decided_written, c.in_ok-decide.was)
