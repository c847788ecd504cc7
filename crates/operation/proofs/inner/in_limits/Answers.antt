use Rattle.std.specs.Prelude.{◌≡◌, ◌+◌}
use native.Mathlib.Omega.{arith}
use Rattle.record.specs.Layout.{size_of}
use Rattle.record.proofs.Faults.{limits_false, limits_last}
use Rattle.operation.proofs.inner.in_limits.Goals as goal

pub returns-then-rec-lt-HEADER : goal.returns-then-rec-lt-HEADER
returns-then-rec-lt-HEADER c = limits_false _ (λ l. omega arith)

pub returns-then-n-gt-MAX_OPS : goal.returns-then-n-gt-MAX_OPS
returns-then-n-gt-MAX_OPS c = limits_false _ (λ l. omega arith)

pub returns-then-text-gt-MAX_SIZE : goal.returns-then-text-gt-MAX_SIZE
returns-then-text-gt-MAX_SIZE c = limits_false _ (λ l. omega arith)

pub returns-then-base-gt-MAX_SIZE : goal.returns-then-base-gt-MAX_SIZE
returns-then-base-gt-MAX_SIZE c = limits_false _ (λ l. omega arith)

pub returns-then-target-gt-MAX_SIZE : goal.returns-then-target-gt-MAX_SIZE
returns-then-target-gt-MAX_SIZE c = limits_false _ (λ l. omega arith)

pub returns : goal.returns
returns c = let e : c.text_start.result + c.text_bytes-text.result ≡ size_of c.args.rec.now = omega arith in
    limits_last _ (omega arith) (omega arith) (omega arith) (omega arith) (omega arith) e
