use borrow.Author.Tests.{eq-eqb, ne_eqb}
use Rattle.entries.specs.InnerTally.{can_follow}
use Rattle.entries.proofs.inner.may_follow.Goals as goal

pub returns-then-last-kind : goal.returns-then-last-kind
unfolding can_follow
returns-then-last-kind c = rw (eq-eqb _ _ c.if-last-kind.true)

pub returns-then-last-eq-DELETE : goal.returns-then-last-eq-DELETE
unfolding can_follow
returns-then-last-eq-DELETE c = rw (ne_eqb _ _ c.if-last-kind.false, eq-eqb _ _ c.if-last-eq-DELETE.true)

pub returns : goal.returns
unfolding can_follow
returns c = rw (ne_eqb _ _ c.if-last-kind.false, ne_eqb _ _ c.if-last-eq-DELETE.false)
