use Rattle.json_texts.proofs.Writes.{set_1, behind_1, behind_2, behind_3, behind_4, room_1, room_2, room_3, room_4}
use Rattle.json_texts.proofs.inner.write_scalar.Goals as goal

pub bounds-out-at : goal.bounds-out-at
bounds-out-at c = search room_1

pub returns-then-code-lt128 : goal.returns-then-code-lt128
returns-then-code-lt128 c = search (set_1, behind_1)

pub two-requires : goal.two-requires
two-requires c = search room_2

pub returns-then-code-lt2048 : goal.returns-then-code-lt2048
returns-then-code-lt2048 c = search behind_2

pub three-requires : goal.three-requires
three-requires c = search room_3

pub returns-then-code-lt65536 : goal.returns-then-code-lt65536
returns-then-code-lt65536 c = search behind_3

pub four-requires : goal.four-requires
four-requires c = search room_4

pub returns : goal.returns
returns c = search behind_4
