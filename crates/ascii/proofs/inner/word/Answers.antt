use Rattle.std.proofs.Common.{◌≡◌, ◌∙◌, take, drop, arith, rules}
use Rattle.characters.proofs.Runs.{word_read}
use Rattle.ascii.proofs.inner.word.Goals as goal

pub returns : goal.returns
returns c = let t = c.args.text.now in
    let e : c.unwrap.result.now ≡ take 8 (drop c.args.at t) = search rules in
    (rw e at c.from_le_bytes.ensures) ∙ word_read t c.args.at (omega arith)
