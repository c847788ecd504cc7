use Rattle.append.proofs.Answering.{accepts_log, scanned}
use borrow.Author.Rules.{rules}
use Rattle.accept.proofs.checked.Goals as goal

pub returns-in_default : goal.returns-in_default
returns-in_default c = search accepts_log

pub admit-requires : goal.admit-requires
admit-requires c = search (scanned, rules)
