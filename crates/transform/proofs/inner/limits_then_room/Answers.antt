use Rattle.transform.proofs.Answering.{judge_bytes, judge_first, judge_second, judge_short, judge_shorter}
use Rattle.transform.proofs.inner.limits_then_room.Goals as goal

pub returns-then-not-keeps_limits : goal.returns-then-not-keeps_limits
returns-then-not-keeps_limits c = search judge_first

pub returns-then-not-keeps_limits-2 : goal.returns-then-not-keeps_limits-2
returns-then-not-keeps_limits-2 c = search judge_second

pub returns-then-room_a-p : goal.returns-then-room_a-p
returns-then-room_a-p c = search judge_short

pub returns-then-room_b-q : goal.returns-then-room_b-q
returns-then-room_b-q c = search judge_shorter

pub returns : goal.returns
returns c = search judge_bytes
