use Rattle.std.specs.Prelude.{Err}
use Rattle.std.proofs.lemmas.Result.{err_from_is_err_and}
use Rattle.answers.specs.declared.Refusal.TheVariants.{Limit}
use Rattle.answers.specs.InnerGiven.{Gives}
use Rattle.record.proofs.Checked.{passed}
use Rattle.operational_transform.specs.Calls.{delete_call}
use Rattle.builders.proofs.Extending.{delete_limit, record_refused, record_passed}
use borrow.Author.Rules.{rules}
use Rattle.builders.proofs.delete.Goals as goal

pub returns-in_err-check : goal.returns-in_err-check
unfolding delete_call
returns-in_err-check c = let a = c.args in
    let p = err_from_is_err_and c.from_residual.result c.from_residual.ensures.1 in
    let w : Gives (delete_call a.rec.now a.n a.out.now) (Err c.in_err-check.field-0.0) a.out.now = search (record_refused, c.in_err-check.was) in
    rw (p.1, p.2) (w.answer, w.out)

pub returns-then-n-gt-LIMIT : goal.returns-then-n-gt-LIMIT
unfolding delete_call
returns-then-n-gt-LIMIT c = let a = c.args in
    let w : Gives (delete_call a.rec.now a.n a.out.now) (Err Limit) a.out.now = search (passed, record_passed, delete_limit, c.in_ok-check.was) in
    (w.answer, w.out)

pub deleted-requires : goal.deleted-requires
deleted-requires c = (search (passed, c.in_ok-check.was), search rules)

pub returns : goal.returns
unfolding delete_call
returns c = let a = c.args in
    let w : Gives (delete_call a.rec.now a.n a.out.now) c.deleted.result c.deleted.new.out = search (passed, record_passed, c.in_ok-check.was) in
    (w.answer, w.out)
