use Rattle.emitter.proofs.Adding.{part_small, part_retain, mark_inserts, part_deletes}
use borrow.Author.Rules.{rules}
use Rattle.emitter.proofs.inner.push_without_text.Goals as goal

pub returns-then-kind-eq-AT_RETAIN : goal.returns-then-kind-eq-AT_RETAIN
returns-then-kind-eq-AT_RETAIN c = search part_retain

pub inserted-requires : goal.inserted-requires
inserted-requires c = (search part_small, search rules, search rules)

pub returns-then-kind-eq-AT_INSERT : goal.returns-then-kind-eq-AT_INSERT
returns-then-kind-eq-AT_INSERT c = search mark_inserts

pub returns : goal.returns
returns c = search part_deletes
