use Rattle.std.proofs.Common.{◌*◌, arith}
use Rattle.characters.proofs.Runs.{runs_none, runs_more}
use Rattle.ascii.proofs.inner.by_words.Goals as goal

pub loop-i-init : goal.loop-i-init
loop-i-init g c = search runs_none

pub loop-i-preserved : goal.loop-i-preserved
loop-i-preserved g c = runs_more c.args.text.now c.args.at c.loop-i.i (8 * g.row.WORDS) c.loop-i.invariant c.are_ascii.ensures c.if-not-are_ascii.false (omega arith)
