use native.Mathlib.Omega.{arith}
use Rattle.json_escapes.proofs.Escaping.{letter_none}
use Rattle.json_escapes.proofs.inner.by_letter.Goals as goal

pub returns-in_default : goal.returns-in_default
returns-in_default c =
    letter_none c.args.b (λ e. omega arith) (λ e. omega arith) (λ e. omega arith) (λ e. omega arith) (λ e. omega arith) (λ e. omega arith) (λ e. omega arith) (λ e. omega arith)
