use native.Mathlib.Omega.{arith}
use Rattle.json_escapes.proofs.Escaping.{width_1, width_2, width_3, width_4}
use Rattle.json_escapes.proofs.inner.width.Goals as goal

pub returns-then-v-lt128 : goal.returns-then-v-lt128
returns-then-v-lt128 c = search width_1

pub returns-then-v-lt2048 : goal.returns-then-v-lt2048
returns-then-v-lt2048 c = width_2 _ (omega arith) (omega arith)

pub returns-then-v-lt65536 : goal.returns-then-v-lt65536
returns-then-v-lt65536 c = width_3 _ (omega arith) (omega arith)

pub returns : goal.returns
returns c = search width_4
