use native.Mathlib.Omega.{arith}
use Rattle.std.specs.Prelude.{◌≤◌}
use Rattle.std.proofs.lemmas.Result.{err_from_is_err_and}
use Rattle.operation.proofs.Answers.{totals_ops, totals_text, totals_ordered, totals_sound, totals_few}
use Rattle.json_measure.proofs.Inserts.{found_chars}
use Rattle.json_measure.proofs.Answers.{texts_refused, sums_refused, totals_entries, bytes_few, measured}
use borrow.Author.Rules.{rules}
use Rattle.json_measure.proofs.inner.measure_texts.Goals as goal

pub insert_bytes-requires : goal.insert_bytes-requires
insert_bytes-requires c = (totals_ops _ _ c.requires, totals_text _ _ c.requires, totals_ordered _ _ c.requires, totals_sound _ _ c.requires)

pub returns-in_default : goal.returns-in_default
returns-in_default c = search texts_refused

pub check_sums-requires : goal.check_sums-requires
check_sums-requires c = (search rules, search found_chars)

pub returns-in_err-check_sums : goal.returns-in_err-check_sums
returns-in_err-check_sums c = let p = err_from_is_err_and c.from_residual.result c.from_residual.ensures.1 in rw (p.1, p.2) (search (sums_refused, c.in_err-check_sums.was))

pub marks-requires : goal.marks-requires
marks-requires c = totals_few _ _ c.requires

pub frames-requires : goal.frames-requires
frames-requires c = totals_entries _ _ c.requires

pub overflow_add-result : goal.overflow_add-result
overflow_add-result c = let h = totals_few _ _ c.requires in omega (arith, c.marks.ensures, c.frames.ensures)

pub overflow_add-result-2 : goal.overflow_add-result-2
overflow_add-result-2 c =
    let h = totals_few _ _ c.requires in
    let b : c.in-Some.texts.bytes ≤ 196608 = search (bytes_few, c.in_ok-check_sums.was) in
    omega (arith, c.marks.ensures, c.frames.ensures)

pub returns : goal.returns
returns c = search (measured, c.in_ok-check_sums.was)
