use Rattle.emitter.proofs.Delivering.{limits_records, limits_text, limits_base, limits_last}
use Rattle.emitter.proofs.inner.keeps_limits.Goals as goal

pub returns-then-e-gt-MAX_OPS : goal.returns-then-e-gt-MAX_OPS
returns-then-e-gt-MAX_OPS c = search limits_records

pub returns-then-e-gt-MAX_SIZE : goal.returns-then-e-gt-MAX_SIZE
returns-then-e-gt-MAX_SIZE c = search limits_text

pub returns-then-e-gt-MAX_SIZE-2 : goal.returns-then-e-gt-MAX_SIZE-2
returns-then-e-gt-MAX_SIZE-2 c = search limits_base

pub returns : goal.returns
returns c = search limits_last
