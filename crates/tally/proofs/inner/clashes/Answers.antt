use Rattle.std.specs.Prelude.{◌+◌, ◌-◌}
use mathlib.Core.Path.{refl}
use native.Mathlib.Omega.{arith}
use Rattle.entries.proofs.Tallying.{clashes_join}
use borrow.Author.Rules.{rules}
use Rattle.tally.proofs.inner.clashes.Goals as goal

pub loop-from-init : goal.loop-from-init
loop-from-init c = (search rules, search rules, search rules, refl)

pub loop-from-preserved : goal.loop-from-preserved
loop-from-preserved c = (search rules, search rules, search rules, clashes_join c.args.rec.now c.loop-from.from (c.loop-from.from + 224) _ _ (search rules) (omega arith) c.loop-from.invariant.3 c.clashes_in.ensures.0)

pub returns : goal.returns
returns c = (clashes_join c.args.rec.now c.loop-from.from _ _ _ (search rules) (search rules) c.loop-from.invariant.3 c.clashes_in-2.ensures.0, search rules)
