use Rattle.steps.proofs.Siding.{gives_all, gives_none}
use borrow.Author.Rules.{rules}
use Rattle.steps.proofs.inner.gives.Goals as goal

pub returns-then-f-eq-AT_DELETE : goal.returns-then-f-eq-AT_DELETE
returns-then-f-eq-AT_DELETE c = (search gives_none, search rules)

pub returns : goal.returns
returns c = (search gives_all, search rules)
