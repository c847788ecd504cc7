use Rattle.std.specs.Prelude.{Err}
use Rattle.std.proofs.lemmas.Result.{err_from_is_err_and}
use Rattle.answers.specs.declared.Refusal.TheVariants.{Limit}
use Rattle.answers.specs.InnerGiven.{Gives}
use Rattle.record.proofs.Checked.{passed}
use Rattle.operational_transform.specs.Calls.{retain_call}
use Rattle.builders.proofs.Extending.{retain_limit, record_refused, record_passed}
use borrow.Author.Rules.{rules}
use Rattle.builders.proofs.retain.Goals as goal

pub returns-in_err-check : goal.returns-in_err-check
unfolding retain_call
returns-in_err-check c = let a = c.args in
    let p = err_from_is_err_and c.from_residual.result c.from_residual.ensures.1 in
    let w : Gives (retain_call a.rec.now a.n a.out.now) (Err c.in_err-check.field-0.0) a.out.now = search (record_refused, c.in_err-check.was) in
    rw (p.1, p.2) (w.answer, w.out)

pub returns-then-n-gt-LIMIT : goal.returns-then-n-gt-LIMIT
unfolding retain_call
returns-then-n-gt-LIMIT c = let a = c.args in
    let w : Gives (retain_call a.rec.now a.n a.out.now) (Err Limit) a.out.now = search (passed, record_passed, retain_limit, c.in_ok-check.was) in
    (w.answer, w.out)

pub retained-requires : goal.retained-requires
retained-requires c = (search (passed, c.in_ok-check.was), search rules)

pub returns : goal.returns
unfolding retain_call
returns c = let a = c.args in
    let w : Gives (retain_call a.rec.now a.n a.out.now) c.retained.result c.retained.new.out = search (passed, record_passed, c.in_ok-check.was) in
    (w.answer, w.out)
