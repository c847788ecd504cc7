use Rattle.std.proofs.Common.{◌≡◌, ◌-◌, arith, rules}
use Rattle.entries.proofs.Tallying.{clashes_none, clashes_more}
use Rattle.tally.proofs.inner.clashes_in.Goals as goal

pub loop-k-init : goal.loop-k-init
loop-k-init c = (search rules, search rules, search clashes_none)

pub loop-k-preserved : goal.loop-k-preserved
loop-k-preserved c = (search rules, search rules, search clashes_more)

pub returns : goal.returns
returns c = let e : c.loop-k.k - c.args.from ≡ c.args.to - c.args.from = omega arith in
    rw (← e) (c.loop-k.invariant.2, c.loop-k.invariant.1)
