use Rattle.std.proofs.lemmas.Result.{err_from_is_err_and}
use Rattle.operation.proofs.Answers.{noop_many, noop_none, noop_one, noop_refused, passed_header, passed_kinds}
use borrow.Author.Rules.{rules}
use Rattle.operation.proofs.is_noop.Goals as goal

pub returns-in_err-check : goal.returns-in_err-check
returns-in_err-check c = let p = err_from_is_err_and c.from_residual.result c.from_residual.ensures.1 in rw (p.1, p.2) (search (noop_refused, c.in_err-check.was))

pub op_count-n-requires : goal.op_count-n-requires
op_count-n-requires c = search (passed_header, c.in_ok-check.was)

pub returns-then-n-eq0 : goal.returns-then-n-eq0
returns-then-n-eq0 c = search (noop_none, c.in_ok-check.was)

pub returns-then-n-gt1 : goal.returns-then-n-gt1
returns-then-n-gt1 c = search (noop_many, c.in_ok-check.was)

pub kind-requires : goal.kind-requires
kind-requires c = search (passed_kinds, rules, c.in_ok-check.was)

pub returns : goal.returns
returns c = search (noop_one, c.in_ok-check.was)
