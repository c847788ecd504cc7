use borrow.Author.Rules.{rules}
use Rattle.characters.specs.InnerBlock.{pending_of}
use Rattle.block16.proofs.inner.pending.Goals as goal

pub returns : goal.returns
unfolding pending_of
returns c = search rules
