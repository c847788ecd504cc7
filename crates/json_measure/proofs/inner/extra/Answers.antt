use Rattle.json_measure.proofs.Texts.{extra_code, extra_mark, extra_backslash, extra_none}
use borrow.Author.Rules.{rules}
use Rattle.json_measure.proofs.inner.extra.Goals as goal

pub returns-then-b-lt32 : goal.returns-then-b-lt32
returns-then-b-lt32 c = (search extra_code, search rules)

pub returns-then-b-eq-QUOTATION_MARK : goal.returns-then-b-eq-QUOTATION_MARK
returns-then-b-eq-QUOTATION_MARK c = (search extra_mark, search rules)

pub returns-then-b-eq-BACKSLASH : goal.returns-then-b-eq-BACKSLASH
returns-then-b-eq-BACKSLASH c = (search extra_backslash, search rules)

pub returns : goal.returns
returns c = (search extra_none, search rules)
