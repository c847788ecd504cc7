use Rattle.characters.proofs.Steps.{due_short}
use Rattle.utf8.proofs.due.Goals as goal

pub returns-then-text-at : goal.returns-then-text-at
returns-then-text-at c = search due_short
