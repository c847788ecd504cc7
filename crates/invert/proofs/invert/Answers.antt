use Rattle.std.specs.Prelude.{Err}
use Rattle.std.proofs.lemmas.Result.{err_from_is_err_and}
use Rattle.answers.specs.InnerGiven.{Gives}
use Rattle.answers.specs.declared.Refusal.TheVariants.{Utf8, IncompatibleLengths}
use Rattle.operational_transform.specs.Calls.{invert_call}
use Rattle.characters.proofs.Passed.{form_holds}
use Rattle.record.proofs.Checked.{passed}
use Rattle.invert.proofs.Inverses.{invert_refused, invert_3, invert_8, agree, invert_0}
use Rattle.invert.proofs.invert.Goals as goal

pub returns-in_default : goal.returns-in_default
returns-in_default c = let a = c.args in
    let w : Gives (invert_call a.rec.now a.text.now a.out.now) (Err Utf8) a.out.now = search (invert_3, c.in_ok-check.was) in
    (w.answer, w.out)

pub base-base-requires : goal.base-base-requires
base-base-requires c = search (passed, c.in_ok-check.was)

pub returns-then-chars-base : goal.returns-then-chars-base
returns-then-chars-base c = let a = c.args in
    let w : Gives (invert_call a.rec.now a.text.now a.out.now) (Err IncompatibleLengths) a.out.now = search (invert_8, c.in_ok-check.was) in
    (w.answer, w.out)

pub inverted-requires : goal.inverted-requires
inverted-requires c = (search (passed, c.in_ok-check.was), search form_holds, search (agree, c.in_ok-check.was))

pub returns-in_err-check : goal.returns-in_err-check
returns-in_err-check c = let a = c.args in
    let p = err_from_is_err_and c.from_residual.result c.from_residual.ensures.1 in
    let w : Gives (invert_call a.rec.now a.text.now a.out.now) (Err c.in_err-check.field-0.0) a.out.now = search (invert_refused, c.in_err-check.was) in
    rw (p.1, p.2) (w.answer, w.out)

pub returns : goal.returns
returns c = let a = c.args in
    let r = c.inverted in
    let w : Gives (invert_call a.rec.now a.text.now a.out.now) r.result r.new.out = search (invert_0, c.in_ok-check.was) in
    (w.answer, w.out)
