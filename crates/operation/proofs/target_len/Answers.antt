use Rattle.std.proofs.lemmas.Result.{err_from_is_err_and}
use Rattle.operation.proofs.Answers.{target_is, target_refused, passed_header}
use Rattle.operation.proofs.target_len.Goals as goal

pub returns-in_err-check : goal.returns-in_err-check
returns-in_err-check c = let p = err_from_is_err_and c.from_residual.result c.from_residual.ensures.1 in rw (p.1, p.2) (search (target_refused, c.in_err-check.was))

pub target-requires : goal.target-requires
target-requires c = search (passed_header, c.in_ok-check.was)

pub returns : goal.returns
returns c = search (target_is, c.in_ok-check.was)
