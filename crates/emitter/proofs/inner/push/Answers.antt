use Rattle.emitter.proofs.Adding.{part_room, part_small, part_few, part_retain, part_inserts, part_deletes}
use borrow.Author.Rules.{rules}
use Rattle.emitter.proofs.inner.push.Goals as goal

pub returns-then-kind-eq-AT_RETAIN : goal.returns-then-kind-eq-AT_RETAIN
returns-then-kind-eq-AT_RETAIN c = search part_retain

pub copy-requires : goal.copy-requires
copy-requires c = (search rules, search rules, search part_room)

pub inserted-requires : goal.inserted-requires
inserted-requires c = (search part_small, search part_few, search rules)

pub returns-then-kind-eq-AT_INSERT : goal.returns-then-kind-eq-AT_INSERT
returns-then-kind-eq-AT_INSERT c = search part_inserts

pub returns : goal.returns
returns c = search part_deletes
