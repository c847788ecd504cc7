use mathlib.Core.Path.{refl}
use Rattle.json_read.proofs.Opening.{array_below, array_space, array_empty, array_values}
use borrow.Author.Rules.{rules}
use Rattle.json_read.proofs.inner.read_array.Goals as goal

pub returns-in_err-at : goal.returns-in_err-at
returns-in_err-at c = rw c.from_residual.ensures c.in_err-at.ensures

pub read_values-requires : goal.read_values-requires
read_values-requires c = (array_below _ _ c.in_ok-at.ensures c.in-Value.is, array_space _ _ c.in_ok-at.ensures c.in-Value.is, search rules, search rules)

pub returns-in-Value : goal.returns-in-Value
returns-in-Value c = array_values _ _ _ _ c.in_ok-at.ensures c.in-Value.is _ _ c.read_values.ensures

pub returns-in-End : goal.returns-in-End
returns-in-End c = array_empty _ _ _ _ c.in_ok-at.ensures c.in-End.is _ refl c.new_emitter.ensures
