use Rattle.std.proofs.lemmas.Result.{err_from_is_err_and}
use Rattle.operation.proofs.Answers.{of_entered}
use Rattle.json_measure.proofs.Answers.{entries_refused}
use Rattle.json_measure.proofs.inner.measure.Goals as goal

pub measure_texts-requires : goal.measure_texts-requires
measure_texts-requires c = search (of_entered, c.in_ok-check_entries.was)

pub returns-in_err-check_entries : goal.returns-in_err-check_entries
returns-in_err-check_entries c = let p = err_from_is_err_and c.from_residual.result c.from_residual.ensures.1 in rw (p.1, p.2) (search (entries_refused, c.in_err-check_entries.was))
