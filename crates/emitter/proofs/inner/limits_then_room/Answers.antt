use Rattle.emitter.proofs.Delivering.{judge_bytes, judge_limit, judge_room}
use Rattle.emitter.proofs.inner.limits_then_room.Goals as goal

pub returns-then-not-keeps_limits : goal.returns-then-not-keeps_limits
returns-then-not-keeps_limits c = search judge_limit

pub returns-then-room-bytes : goal.returns-then-room-bytes
returns-then-room-bytes c = search judge_room

pub returns : goal.returns
returns c = search judge_bytes
