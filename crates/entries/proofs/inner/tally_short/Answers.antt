use Rattle.std.proofs.Common.{◌≡◌, refl, arith}
use Rattle.entries.proofs.Tallying.{tally_none, tally_next, last_more}
use Rattle.entries.proofs.inner.tally_short.Goals as goal

pub loop-k-init : goal.loop-k-init
loop-k-init c = (tally_none _, refl)

pub loop-k-preserved : goal.loop-k-preserved
loop-k-preserved c = (search tally_next, search last_more)

pub returns : goal.returns
returns c = let e : c.loop-k.k ≡ c.args.n = omega arith in rw (← e) c.loop-k.invariant.0
