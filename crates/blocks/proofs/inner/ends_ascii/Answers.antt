use mathlib.Core.Path.{refl}
use native.Mathlib.Omega.{arith}
use Rattle.characters.proofs.Runs.{runs_last}
use Rattle.characters.proofs.Window.{only_not, only_none}
use Rattle.blocks.proofs.inner.ends_ascii.Goals as goal

pub returns-then-text-at-gt8 : goal.returns-then-text-at-gt8
returns-then-text-at-gt8 c = search only_not

pub returns-then-not-are_ascii : goal.returns-then-not-are_ascii
returns-then-not-are_ascii c = search only_not

pub returns : goal.returns
returns c = only_none _ _ c.pending.ensures.0 (λ z. (runs_last _ _ _ (omega arith) refl (omega arith) (omega arith) c.are_ascii.ensures c.if-not-are_ascii.false-raw, z))
