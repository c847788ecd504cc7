use Rattle.operation.proofs.Answers.{no_fault, text_from, from_small}
use borrow.Author.Rules.{rules}
use Rattle.operation.proofs.inner.text_from.Goals as goal

pub text_at-requires : goal.text_at-requires
text_at-requires c = search (no_fault, rules)

pub returns : goal.returns
returns c = (search text_from, search from_small)
