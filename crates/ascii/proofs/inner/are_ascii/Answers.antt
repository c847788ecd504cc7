use Rattle.std.proofs.Common.{arith}
use Rattle.characters.proofs.Runs.{tops_more}
use Rattle.ascii.proofs.inner.are_ascii.Goals as goal

pub loop-k-preserved : goal.loop-k-preserved
loop-k-preserved g c = tops_more c.args.text.now c.args.at c.loop-k.k c.loop-k.all c.word-all.result c.loop-k.invariant c.word-all.ensures (omega arith) (λ k. omega (arith, c.type_inv.text k))
