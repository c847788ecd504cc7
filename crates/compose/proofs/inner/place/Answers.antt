use native.Mathlib.Omega.{arith}
use Rattle.emitter.proofs.Staging.{has_records, has_text, settled_writes}
use borrow.Author.Rules.{rules}
use Rattle.compose.proofs.inner.place.Goals as goal

pub relocate-requires : goal.relocate-requires
relocate-requires c = (search rules, omega arith, search has_records, search has_text)

pub returns : goal.returns
returns c = search settled_writes
