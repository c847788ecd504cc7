use Rattle.std.specs.Prelude.{Err}
use Rattle.std.proofs.lemmas.Result.{err_from_is_err_and}
use Rattle.characters.proofs.Passed.{form_ill, form_holds, form_num}
use Rattle.answers.specs.declared.Refusal.TheVariants.{Utf8, Limit}
use Rattle.answers.specs.InnerGiven.{Gives}
use Rattle.record.proofs.Checked.{passed}
use Rattle.operational_transform.specs.Calls.{insert_call}
use Rattle.emitter.proofs.Giving.{text_refused, text_ill, text_passed}
use Rattle.builders.proofs.Extending.{insert_limit}
use borrow.Author.Rules.{rules}
use Rattle.builders.proofs.insert.Goals as goal

pub returns-in_default : goal.returns-in_default
unfolding insert_call
returns-in_default c = let a = c.args in
    let w : Gives (insert_call a.rec.now a.text.now a.out.now) (Err Utf8) a.out.now = search (passed, text_ill, form_ill, c.in_ok-check.was) in
    (w.answer, w.out)

pub returns-then-text-gt-MAX_SIZE : goal.returns-then-text-gt-MAX_SIZE
unfolding insert_call
returns-then-text-gt-MAX_SIZE c = let a = c.args in
    let w : Gives (insert_call a.rec.now a.text.now a.out.now) (Err Limit) a.out.now = search (passed, text_passed, form_holds, insert_limit, c.in_ok-check.was) in
    (w.answer, w.out)

pub inserted-requires : goal.inserted-requires
inserted-requires c = (search (passed, c.in_ok-check.was), search form_holds, search form_num, search rules)

pub returns-in_err-check : goal.returns-in_err-check
unfolding insert_call
returns-in_err-check c = let a = c.args in
    let p = err_from_is_err_and c.from_residual.result c.from_residual.ensures.1 in
    let w : Gives (insert_call a.rec.now a.text.now a.out.now) (Err c.in_err-check.field-0.0) a.out.now = search (text_refused, c.in_err-check.was) in
    rw (p.1, p.2) (w.answer, w.out)

pub returns : goal.returns
unfolding insert_call
returns c = let a = c.args in
    let w : Gives (insert_call a.rec.now a.text.now a.out.now) c.inserted.result c.inserted.new.out = search (passed, text_passed, form_holds, c.in_ok-check.was) in
    (w.answer, w.out)
