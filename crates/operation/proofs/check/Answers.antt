use Rattle.std.proofs.lemmas.Result.{err_from_is_err_and}
use Rattle.operation.proofs.Answers.{check_2, of_entered, totals_ops, totals_text, totals_ordered, entered_sound}
use borrow.Author.Rules.{rules}
use Rattle.operation.proofs.check.Goals as goal

pub returns-in_err-t : goal.returns-in_err-t
returns-in_err-t c = let p = err_from_is_err_and c.from_residual.result c.from_residual.ensures.1 in rw (p.1, p.2) (search (check_2, c.in_err-t.was))

pub inserted_chars-inserted-requires : goal.inserted_chars-inserted-requires
inserted_chars-inserted-requires c =
    let w = c.in_ok-t.was in (search (of_entered, totals_ops, w), search (of_entered, totals_text, w), search (of_entered, totals_ordered, w), search (of_entered, entered_sound, w))

pub check_sums-requires : goal.check_sums-requires
check_sums-requires c = (search (of_entered, c.in_ok-t.was), search rules)
