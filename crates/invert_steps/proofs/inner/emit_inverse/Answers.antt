use Rattle.invert_steps.proofs.Undoing.{part_well, part_few, part_count, gives_retain, gives_delete, gives_insert}
use borrow.Author.Rules.{rules}
use Rattle.invert_steps.proofs.inner.emit_inverse.Goals as goal

pub returns-then-f-eq-AT_RETAIN : goal.returns-then-f-eq-AT_RETAIN
returns-then-f-eq-AT_RETAIN c = search gives_retain

pub returns-then-f-eq-AT_INSERT : goal.returns-then-f-eq-AT_INSERT
returns-then-f-eq-AT_INSERT c = search gives_delete

pub insert-requires : goal.insert-requires
insert-requires c = search (part_well, part_few, part_count, rules)

pub returns : goal.returns
returns c = search gives_insert
