use Rattle.std.specs.Prelude.{Err}
use Rattle.std.proofs.lemmas.Result.{err_from_is_err_and}
use Rattle.record.proofs.Checked.{passed}
use Rattle.transform.specs.InnerPairs.{Transforms}
use Rattle.transform.proofs.Answering.{transforms_first, transforms_second}
use Rattle.transform.proofs.transform.Goals as goal

pub returns-in_err-check : goal.returns-in_err-check
returns-in_err-check c = let a = c.args in
    let p = err_from_is_err_and c.from_residual.result c.from_residual.ensures.1 in
    let w : Transforms a.a.now a.b.now a.out_a.now a.out_b.now (Err c.in_err-check.field-0.0) a.out_a.now a.out_b.now = search (transforms_first, c.in_err-check.was) in
    rw (p.1, p.2) (w.answer, w.out_a, w.out_b)

pub returns-in_err-check-2 : goal.returns-in_err-check-2
returns-in_err-check-2 c = let a = c.args in
    let p = err_from_is_err_and c.from_residual-in_err-check-2.result c.from_residual-in_err-check-2.ensures.1 in
    let w : Transforms a.a.now a.b.now a.out_a.now a.out_b.now (Err c.in_err-check-2.field-0.0) a.out_a.now a.out_b.now = search (passed, transforms_second, c.in_ok-check.was, c.in_err-check-2.was) in
    rw (p.1, p.2) (w.answer, w.out_a, w.out_b)

pub transformed-requires : goal.transformed-requires
transformed-requires c = (search (passed, c.in_ok-check.was), search (passed, c.in_ok-check-2.was))
