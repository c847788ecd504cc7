use Rattle.apply_steps.proofs.Playing.{insert_room, step_insert, chars_room, takes_rest, step_retain, step_delete}
use Rattle.record.proofs.Cases.{Numbers}
use borrow.Author.Rules.{rules}
use Rattle.apply_steps.proofs.inner.apply_op.Goals as goal

pub copy_short-requires : goal.copy_short-requires
copy_short-requires c = (search rules, search rules, search (insert_room, Numbers))

pub returns-in-Insert : goal.returns-in-Insert
returns-in-Insert c = search (step_insert, Numbers)

pub end_of-end-requires : goal.end_of-end-requires
end_of-end-requires c = (search rules, search rules, search rules, search rules, search (chars_room, Numbers), search (takes_rest, Numbers))

pub returns-in-Retain : goal.returns-in-Retain
returns-in-Retain c = search (step_retain, Numbers)

pub returns : goal.returns
returns c = search (step_delete, Numbers)
