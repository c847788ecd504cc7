use Rattle.std.proofs.Common.{◌≡◌, ◌+◌, ◌-◌, ◌<◌, ◌∙◌, length, drop, arith}
use Rattle.characters.specs.Chars.{take_chars}
use Rattle.characters.proofs.Walk.{take_end}
use Rattle.characters.proofs.Passed.{Skips, skip_none, skip_char}
use Rattle.utf8.proofs.inner.skip.Goals as goal

pub returns-then-i-bytes : goal.returns-then-i-bytes
returns-then-i-bytes c = let l = c.loop-passed in
    omega (arith, take_end c.args.bytes.now l.i (c.args.k - l._passed) (omega arith))

pub overflow_add-i : goal.overflow_add-i
overflow_add-i c = let l = c.loop-passed in let t = c.args.bytes.now in
    let p : Skips t l.i (c.args.k - l._passed) (l.i + c.width-i.result) = skip_char t l.i (c.args.k - l._passed) c.width-i.result (omega arith) l.invariant.1 c.width-i.ensures (omega arith) in
    omega (arith, p.below)

pub loop-passed-preserved : goal.loop-passed-preserved
loop-passed-preserved c = let l = c.loop-passed in let t = c.args.bytes.now in
    let p : Skips t l.i (c.args.k - l._passed) (l.i + c.width-i.result) = skip_char t l.i (c.args.k - l._passed) c.width-i.result (omega arith) l.invariant.1 c.width-i.ensures (omega arith) in
    let z : c.args.k - (l._passed + 1) ≡ c.args.k - l._passed - 1 = omega arith in
    (p.below, p.well, rw z (p.taken ∙ l.invariant.2))

pub returns : goal.returns
returns c = let l = c.loop-passed in
    let e : l.i ≡ l.i + length (take_chars (c.args.k - l._passed) (drop l.i c.args.bytes.now)) = skip_none c.args.bytes.now l.i (c.args.k - l._passed) l.invariant.1 (omega arith) in
    omega arith
