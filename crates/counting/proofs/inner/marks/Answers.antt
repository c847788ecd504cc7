use Rattle.std.specs.Prelude.{◌-◌, ◌/◌}
use native.Mathlib.Omega.{arith}
use lib.Bits.{bit_or, and_le_r}
use Rattle.characters.proofs.Marked.{word_marks}
use Rattle.counting.proofs.inner.marks.Goals as goal

pub returns : goal.returns
returns c = let a = c.args in
    let w = c.word-w.result in
    (word_marks a.text.now a.at w c.word-w.ensures (omega arith) (λ k. omega (arith, c.type_inv.text k)), and_le_r (bit_or ((0xFFFF_FFFF_FFFF_FFFF - w) / 128) (w / 64)) 0x0101_0101_0101_0101)
