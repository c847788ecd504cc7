use Rattle.std.specs.Prelude.{◌-◌, ◌/◌}
use native.Mathlib.Omega.{arith}
use lib.Bits.{bit_and, and_le_r}
use Rattle.characters.proofs.Bytes.{is_cont_bit}
use Rattle.block16.proofs.inner.cont_bit.Goals as goal

pub returns : goal.returns
returns c = let b = c.args.b in (is_cont_bit b (omega arith), and_le_r (bit_and (b / 128) ((255 - b) / 64)) 1)
