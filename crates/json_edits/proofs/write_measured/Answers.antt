use Rattle.std.proofs.lemmas.Result.{err_from_is_err_and}
use Rattle.json_edits.proofs.Writing.{record_refused, list_passes, list_ops, list_fits, list_room, list_given}
use borrow.Author.Rules.{rules}
use Rattle.json_edits.proofs.write_measured.Goals as goal

pub returns-in_err-list : goal.returns-in_err-list
returns-in_err-list c = let p = err_from_is_err_and c.from_residual.result c.from_residual.ensures.1 in rw (p.1, p.2) (search (record_refused, c.in_err-list.was))

pub returns-then-out-list : goal.returns-then-out-list
returns-then-out-list c = search (list_room, c.in_ok-list.was)

pub write_list-requires : goal.write_list-requires
write_list-requires c = let w = c.in_ok-list.was in (search (list_passes, w), search (list_ops, w), search (list_fits, rules, w))

pub returns : goal.returns
returns c = search (list_given, c.in_ok-list.was)
