use Rattle.emitter.proofs.Adding.{adds_insert_none, adds_inserts, few_chars}
use borrow.Author.Rules.{rules}
use Rattle.emitter.proofs.inner.insert.Goals as goal

pub returns-then-len-eq0 : goal.returns-then-len-eq0
returns-then-len-eq0 c = search adds_insert_none

pub inserted-requires : goal.inserted-requires
inserted-requires c = (search rules, search few_chars, search rules)

pub returns : goal.returns
returns c = search adds_inserts
