use Rattle.json_measure.proofs.Digits.{digits_1, digits_2, digits_3, digits_4, digits_5}
use borrow.Author.Rules.{rules}
use Rattle.json_measure.proofs.inner.digits.Goals as goal

pub returns-then-n-lt10 : goal.returns-then-n-lt10
returns-then-n-lt10 c = (search digits_1, search rules, search rules)

pub returns-then-n-lt100 : goal.returns-then-n-lt100
returns-then-n-lt100 c = (search digits_2, search rules, search rules)

pub returns-then-n-lt1000 : goal.returns-then-n-lt1000
returns-then-n-lt1000 c = (search digits_3, search rules, search rules)

pub returns-then-n-lt10000 : goal.returns-then-n-lt10000
returns-then-n-lt10000 c = (search digits_4, search rules, search rules)

pub returns : goal.returns
returns c = (search digits_5, search rules, search rules)
