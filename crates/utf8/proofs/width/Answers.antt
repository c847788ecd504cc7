use native.Mathlib.Omega.{arith}
use Rattle.characters.specs.Form.{rows}
use Rattle.characters.proofs.Leads.{spans_row}
use Rattle.utf8.proofs.width.Goals as goal

pub returns-then-b-lt128 : goal.returns-then-b-lt128
unfolding rows
returns-then-b-lt128 c = spans_row 0x00 0x7F 1 tt (omega arith) (omega arith)

pub returns-then-b-lt224 : goal.returns-then-b-lt224
unfolding rows
returns-then-b-lt224 c = spans_row 0x80 0xDF 2 tt (omega arith) (omega arith)

pub returns-then-b-lt240 : goal.returns-then-b-lt240
unfolding rows
returns-then-b-lt240 c = spans_row 0xE0 0xEF 3 tt (omega arith) (omega arith)

pub returns : goal.returns
unfolding rows
returns c = spans_row 0xF0 0xFF 4 tt (omega arith) (omega arith)
