use native.Mathlib.Omega.{arith}
use lib.ListN.{length-set}
use Rattle.json_texts.proofs.Writes.{set_2}
use Rattle.json_texts.proofs.inner.two.Goals as goal

pub bounds-out-at-2 : goal.bounds-out-at-2
bounds-out-at-2 c = simp length-set (omega arith)

pub returns : goal.returns
returns c = search set_2
