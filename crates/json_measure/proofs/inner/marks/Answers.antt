use Rattle.json_measure.proofs.Values.{marks_some}
use borrow.Author.Rules.{rules}
use Rattle.json_measure.proofs.inner.marks.Goals as goal

pub returns-else-n-eq0 : goal.returns-else-n-eq0
returns-else-n-eq0 c = (search marks_some, search rules)
