use native.Mathlib.Omega.{arith}
use Rattle.json_escapes.proofs.Digits.{hex_digit, hex_upper, hex_lower, hex_under, hex_between, hex_behind, hex_over}
use Rattle.json_escapes.proofs.inner.hex.Goals as goal

pub returns-in-48-to-57 : goal.returns-in-48-to-57
returns-in-48-to-57 c = hex_digit _ (omega arith) (omega arith)

pub returns-in-65-to-70 : goal.returns-in-65-to-70
returns-in-65-to-70 c = hex_upper _ (omega arith) (omega arith)

pub returns-in-97-to-102 : goal.returns-in-97-to-102
returns-in-97-to-102 c = hex_lower _ (omega arith) (omega arith)

pub returns-in_default : goal.returns-in_default
returns-in_default c = search (hex_under, hex_over)

pub returns-in_default-2 : goal.returns-in_default-2
returns-in_default-2 c = hex_between _ (omega arith) (omega arith)

pub returns-in_default-3 : goal.returns-in_default-3
returns-in_default-3 c = hex_behind _ (omega arith) (omega arith)

pub returns-in_default-4 : goal.returns-in_default-4
returns-in_default-4 c = search (hex_under, hex_over)
