use Rattle.std.proofs.Common.{◌≡◌, arith, rules}
use Rattle.json_measure.proofs.Values.{frames_more}
use Rattle.json_measure.proofs.inner.frames.Goals as goal

pub loop-k-preserved : goal.loop-k-preserved
loop-k-preserved c = (search frames_more, search rules)

pub returns : goal.returns
returns c = let e : c.loop-k.k ≡ c.args.n = omega arith in (rw (← e) c.loop-k.invariant.0, search rules)
