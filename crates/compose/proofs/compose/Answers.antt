use Rattle.std.specs.Prelude.{Err}
use Rattle.std.proofs.lemmas.Result.{err_from_is_err_and}
use Rattle.answers.specs.InnerGiven.{Gives}
use Rattle.record.proofs.Checked.{passed}
use Rattle.operational_transform.specs.Calls.{compose_call}
use Rattle.compose.proofs.Looping.{composes_first, composes_second}
use Rattle.compose.proofs.compose.Goals as goal

pub returns-in_err-check : goal.returns-in_err-check
returns-in_err-check c = let a = c.args in
    let p = err_from_is_err_and c.from_residual.result c.from_residual.ensures.1 in
    let w : Gives (compose_call a.a.now a.b.now a.out.now) (Err c.in_err-check.field-0.0) a.out.now = search (composes_first, c.in_err-check.was) in
    rw (p.1, p.2) (w.answer, w.out)

pub returns-in_err-check-2 : goal.returns-in_err-check-2
returns-in_err-check-2 c = let a = c.args in
    let p = err_from_is_err_and c.from_residual-in_err-check-2.result c.from_residual-in_err-check-2.ensures.1 in
    let w : Gives (compose_call a.a.now a.b.now a.out.now) (Err c.in_err-check-2.field-0.0) a.out.now = search (passed, composes_second, c.in_ok-check.was, c.in_err-check-2.was) in
    rw (p.1, p.2) (w.answer, w.out)

pub composed-requires : goal.composed-requires
composed-requires c = (search (passed, c.in_ok-check.was), search (passed, c.in_ok-check-2.was))
