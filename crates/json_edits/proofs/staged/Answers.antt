use Rattle.std.proofs.lemmas.Result.{err_from_is_err_and}
use Rattle.json_edits.proofs.Placing.{no_list, list_under, list_placeable, list_refused, list_written}
use Rattle.json_edits.proofs.staged.Goals as goal

pub returns-in_default : goal.returns-in_default
returns-in_default c = search no_list

pub limits_then_room-requires : goal.limits_then_room-requires
limits_then_room-requires c = search list_under

pub returns-in_err-k : goal.returns-in_err-k
returns-in_err-k c = let p = err_from_is_err_and c.from_residual.result c.from_residual.ensures.1 in rw (p.1, p.2) (search (list_refused, c.in_err-k.was))

pub place-requires : goal.place-requires
place-requires c = search (list_placeable, c.in_ok-k.was)

pub returns : goal.returns
returns c = search (list_written, c.in_ok-k.was)
