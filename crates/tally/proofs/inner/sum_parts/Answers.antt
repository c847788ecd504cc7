use Rattle.std.proofs.Common.{◌≡◌, arith, rules}
use Rattle.tally.proofs.Parting.{part_none, part_room, part_more}
use Rattle.tally.proofs.inner.sum_parts.Goals as goal

pub loop-k-init : goal.loop-k-init
loop-k-init c = part_none _

pub add_part-p-requires : goal.add_part-p-requires
add_part-p-requires c = (search rules, search part_room)

pub loop-k-preserved : goal.loop-k-preserved
loop-k-preserved c = search part_more

pub returns : goal.returns
returns c = let e : c.loop-k.k ≡ c.args.n = omega arith in rw (← e) c.loop-k.invariant
