use Rattle.characters.specs.InnerAscii.{Runs}
use Rattle.std.specs.Prelude.{◌+◌, ◌-◌}
use native.Mathlib.Omega.{arith}
use Rattle.characters.proofs.Runs.{runs_none, runs_join, runs_some, runs_ahead}
use Rattle.characters.proofs.Window.{window_run, goes_on}
use borrow.Author.Rules.{rules}
use Rattle.blocks.proofs.inner.pass.Goals as goal

pub ahead-requires : goal.ahead-requires
ahead-requires c = search rules

pub overflow_add-i-then-ahead : goal.overflow_add-i-then-ahead
overflow_add-i-then-ahead c = let r : Runs c.args.text.now (c.loop-i.i + 16) (c.loop-i.i + 16 + 64) = runs_ahead _ _ c.ahead.ensures c.if-ahead.true (omega arith) in omega arith

pub bulk-i-requires : goal.bulk-i-requires
bulk-i-requires c = let r : Runs c.args.text.now (c.loop-i.i + 16) (c.loop-i.i + 16 + 64) = runs_ahead _ _ c.ahead.ensures c.if-ahead.true (omega arith) in r.below

pub loop-i-smaller-then-ahead : goal.loop-i-smaller-then-ahead
loop-i-smaller-then-ahead c = let r : Runs c.args.text.now (c.loop-i.i + 16) (c.loop-i.i + 16 + 64) = runs_ahead _ _ c.ahead.ensures c.if-ahead.true (omega arith) in omega arith

pub loop-i-preserved-then-ahead : goal.loop-i-preserved-then-ahead
loop-i-preserved-then-ahead c = let r : Runs c.args.text.now (c.loop-i.i + 16) (c.loop-i.i + 16 + 64) = runs_ahead _ _ c.ahead.ensures c.if-ahead.true (omega arith) in window_run _ _ _ _ _ c.loop-i.invariant c.pending.ensures.0 (omega arith) (runs_join _ _ _ _ (runs_some _ _ 16 c.are_ascii.ensures c.if-are_ascii.true (omega arith)) (runs_join _ _ _ _ r c.bulk-i.ensures)) (omega arith)

pub loop-i-preserved-else-ahead : goal.loop-i-preserved-else-ahead
loop-i-preserved-else-ahead c = window_run _ _ _ _ _ c.loop-i.invariant c.pending.ensures.0 (omega arith) (runs_join _ _ _ _ (runs_some _ _ 16 c.are_ascii.ensures c.if-are_ascii.true (omega arith)) (runs_none _ _ (omega arith))) (omega arith)

pub loop-i-preserved : goal.loop-i-preserved
loop-i-preserved c = search goes_on
