use Rattle.std.proofs.lemmas.Result.{err_from_is_err_and}
use Rattle.operation.proofs.Answers.{base_is, base_refused, passed_header}
use Rattle.operation.proofs.base_len.Goals as goal

pub returns-in_err-check : goal.returns-in_err-check
returns-in_err-check c = let p = err_from_is_err_and c.from_residual.result c.from_residual.ensures.1 in rw (p.1, p.2) (search (base_refused, c.in_err-check.was))

pub base-requires : goal.base-requires
base-requires c = search (passed_header, c.in_ok-check.was)

pub returns : goal.returns
returns c = search (base_is, c.in_ok-check.was)
