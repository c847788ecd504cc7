use Rattle.std.specs.Prelude.{◌≡◌}
use native.Mathlib.Omega.{arith}
use Rattle.session_log.proofs.Scanning.{scan_start, scan_stop, scan_next, scan_end}
use borrow.Author.Rules.{rules}
use Rattle.session_log.proofs.inner.go_through.Goals as goal

pub loop-k-init : goal.loop-k-init
loop-k-init c = search scan_start

pub returns-in_err-here : goal.returns-in_err-here
returns-in_err-here c = rw c.from_residual.ensures (search (scan_stop, c.in_err-here.was, rules))

pub loop-k-preserved : goal.loop-k-preserved
loop-k-preserved c = search (scan_next, c.in_ok-here.was, rules)

pub returns : goal.returns
returns c = let e : c.loop-k.k ≡ c.args.count = omega arith in
    let p = rw e at c.loop-k.invariant in
    search (scan_end, rules)
