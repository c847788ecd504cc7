use Rattle.std.proofs.Common.{◌≡◌, ◌≤◌, arith}
use Rattle.entries.proofs.Tallying.{tally_empty, tally_first, tally_more}
use Rattle.entries.proofs.inner.tally_wide.Goals as goal

pub returns-then-n-eq0 : goal.returns-then-n-eq0
returns-then-n-eq0 c = search tally_empty

pub loop-k-init : goal.loop-k-init
loop-k-init c = search tally_first

pub loop-k-preserved : goal.loop-k-preserved
loop-k-preserved c = let read = c.count-count.ensures in
    tally_more _ _ _ _ c.kind-kind.ensures read.0 _ _ _ _ c.loop-k.invariant read.1 c.loop-k.auto.k c.kind-last.ensures c.may_follow.ensures c.add_entry-t-in-loop-k.ensures

pub returns : goal.returns
returns c = let e : c.loop-k.k ≡ c.args.n = omega arith in rw (← e) c.loop-k.invariant
