use Rattle.std.proofs.Common.{◌≡◌, length, arith}
use Rattle.json_strings.proofs.Spans.{run_stop, plains_byte, run_whole}
use Rattle.json_strings.proofs.inner.plain_ascii.Goals as goal

pub loop-i-init : goal.loop-i-init
loop-i-init c = c.by_eight-i.ensures

pub returns-then-not-plain_byte : goal.returns-then-not-plain_byte
returns-then-not-plain_byte c = search run_stop

pub loop-i-preserved : goal.loop-i-preserved
loop-i-preserved c = search plains_byte

pub returns : goal.returns
returns c = let t = c.args.text.now in
    let e : c.loop-i.i ≡ length t = omega arith in
    run_whole t c.args.at (length t) (rw e at c.loop-i.invariant) (omega arith)
