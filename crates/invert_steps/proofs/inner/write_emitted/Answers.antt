use Rattle.reader.proofs.Fronts.{fault_few}
use Rattle.invert_steps.proofs.Undoing.{going_start, going_under, going_room, going_takes, going_less, going_more, done_small, done_fits, done_size, done_writes}
use borrow.Author.Rules.{rules}
use Rattle.invert_steps.proofs.inner.write_emitted.Goals as goal

pub first_front-f-requires : goal.first_front-f-requires
first_front-f-requires c = search (fault_few, rules)

pub loop-f-init : goal.loop-f-init
loop-f-init c = (search going_start, search rules)

pub emit_inverse-e-requires : goal.emit_inverse-e-requires
emit_inverse-e-requires c = search (going_room, going_takes, rules)

pub loop-f-smaller : goal.loop-f-smaller
loop-f-smaller c = search going_less

pub loop-f-preserved : goal.loop-f-preserved
loop-f-preserved c = (search going_more, search rules)

pub finish-whole-requires : goal.finish-whole-requires
finish-whole-requires c = search (going_under, rules)

pub write_header-requires : goal.write_header-requires
write_header-requires c = search done_small

pub overflow_add-result : goal.overflow_add-result
overflow_add-result c = search (done_fits, rules)

pub returns : goal.returns
returns c = (search done_size, search done_writes)
