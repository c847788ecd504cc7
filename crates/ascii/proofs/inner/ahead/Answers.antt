use borrow.Author.Tests.{le-leb, lt-leb}
use Rattle.ascii.proofs.inner.ahead.Goals as goal

pub returns-then-text-at-lt64 : goal.returns-then-text-at-lt64
returns-then-text-at-lt64 c = simp (lt-leb _ _ c.if-text-at-lt64.true)

pub returns : goal.returns
returns c = simp (le-leb _ _ c.if-text-at-lt64.false, c.are_ascii.ensures)
