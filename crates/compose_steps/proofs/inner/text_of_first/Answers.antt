use Rattle.emitter.proofs.Adding.{part_room, part_small, part_few, part_inserts}
use borrow.Author.Rules.{rules}
use Rattle.compose_steps.proofs.inner.text_of_first.Goals as goal

pub copy_short-requires : goal.copy_short-requires
copy_short-requires c = (search rules, search rules, search part_room)

pub inserted-requires : goal.inserted-requires
inserted-requires c = (search part_small, search part_few, search rules)

pub returns : goal.returns
returns c = search part_inserts
