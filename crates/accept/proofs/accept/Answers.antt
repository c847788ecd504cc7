use Rattle.std.proofs.lemmas.Result.{err_from_is_err_and}
use Rattle.record.proofs.Checked.{passed}
use Rattle.append.proofs.Answering.{accepts_edit}
use Rattle.accept.proofs.accept.Goals as goal

pub checked-requires : goal.checked-requires
checked-requires c = search (passed, c.in_ok-check.was)

pub returns-in_err-check : goal.returns-in_err-check
returns-in_err-check c =
    let p = err_from_is_err_and c.from_residual.result c.from_residual.ensures.1 in
    let a = c.args in
    let w = accepts_edit a.edit.now a.r a.log.now a.out.now _ c.check.ensures _ c.in_err-check.was in
    rw (p.1, p.2) (w.answer, w.log_is, w.out_is)
