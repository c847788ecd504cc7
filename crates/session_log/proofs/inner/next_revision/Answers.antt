use Rattle.std.specs.Prelude.{◌+◌, ◌≤◌, length}
use Rattle.record.proofs.Checked.{passed}
use Rattle.session_log.proofs.Scanning.{step_fault, step_base, step_room, step_on}
use borrow.Author.Rules.{rules}
use Rattle.session_log.proofs.inner.next_revision.Goals as goal

pub returns-in_default : goal.returns-in_default
returns-in_default c = search step_fault

pub base-requires : goal.base-requires
base-requires c = search passed

pub returns-then-base-here : goal.returns-then-base-here
returns-then-base-here c = search step_base

pub overflow_add-result : goal.overflow_add-result
overflow_add-result c = let a = c.args in
    let h : a.here.at + c.in-Ok.size ≤ length a.log.now = search step_room in
    search rules

pub target-requires : goal.target-requires
target-requires c = search passed

pub returns : goal.returns
returns c = search step_on
