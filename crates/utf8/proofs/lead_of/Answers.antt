use mathlib.Core.Logic.{⊎_elim}
use native.Mathlib.Omega.{arith}
use Rattle.characters.specs.Form.{rows}
use Rattle.characters.proofs.Leads.{le_or_lt, lead_row}
use Rattle.utf8.proofs.lead_of.Goals as goal

pub returns-in-224 : goal.returns-in-224
unfolding rows
returns-in-224 c = lead_row 2 0xE0 0xE0 tt (omega arith) (omega arith)

pub returns-in-237 : goal.returns-in-237
unfolding rows
returns-in-237 c = lead_row 5 0xED 0xED tt (omega arith) (omega arith)

pub returns-in-240 : goal.returns-in-240
unfolding rows
returns-in-240 c = lead_row 6 0xF0 0xF0 tt (omega arith) (omega arith)

pub returns-in-244 : goal.returns-in-244
unfolding rows
returns-in-244 c = lead_row 8 0xF4 0xF4 tt (omega arith) (omega arith)

pub returns-in-0-to-127 : goal.returns-in-0-to-127
unfolding rows
returns-in-0-to-127 c = lead_row 0 0x00 0x7F tt (omega arith) (omega arith)

pub returns-in-194-to-223 : goal.returns-in-194-to-223
unfolding rows
returns-in-194-to-223 c = lead_row 1 0xC2 0xDF tt (omega arith) (omega arith)

pub returns-in-225-to-236 : goal.returns-in-225-to-236
unfolding rows
returns-in-225-to-236 c = ⊎_elim (λ l. lead_row 3 0xE1 0xEC tt (omega arith) l) (λ l. lead_row 4 0xEE 0xEF tt (omega arith) (omega arith))
    (le_or_lt c.args.b 0xEC)

pub returns-in-241-to-243 : goal.returns-in-241-to-243
unfolding rows
returns-in-241-to-243 c = lead_row 7 0xF1 0xF3 tt (omega arith) (omega arith)

pub returns-in_default : goal.returns-in_default
unfolding rows
returns-in_default c = lead_row 9 0x80 0xC1 tt (omega arith) (omega arith)

pub returns-in_default-2 : goal.returns-in_default-2
unfolding rows
returns-in_default-2 c = lead_row 9 0xF5 0xFF tt (omega arith) (omega arith)
