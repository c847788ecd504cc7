use Rattle.std.specs.Prelude.{◌≡◌, ◌+◌, ◌-◌, ◌≤◌, length}
use Rattle.std.proofs.lemmas.Result.{err_from_is_err_and}
use Rattle.partial.proofs.Summing.{sum_start, sum_fault, sum_record, sum_target, sum_room, sum_refused, sum_next, sum_end}
use borrow.Author.Rules.{rules}
use Rattle.partial.proofs.inner.sum_up.Goals as goal

pub loop-k-init : goal.loop-k-init
loop-k-init c = (search rules, search rules, search sum_start)

pub compose_next-requires : goal.compose_next-requires
compose_next-requires c = (search sum_fault, search sum_record, search sum_target, search rules, search rules)

pub returns-in_err-size : goal.returns-in_err-size
returns-in_err-size c = let p = err_from_is_err_and c.from_residual.result c.from_residual.ensures.1 in rw (p.1, p.2) (search (sum_refused, c.in_err-size.was))

pub size-at-requires : goal.size-at-requires
size-at-requires c = search sum_record

pub overflow_add-at : goal.overflow_add-at
overflow_add-at c = let a = c.args in
    let h : c.loop-k.at + c.size-at.result ≤ length a.log.now = search sum_room in
    search rules

pub loop-k-preserved : goal.loop-k-preserved
loop-k-preserved c = (search rules, search rules, search (sum_next, c.in_ok-size.was))

pub returns : goal.returns
returns c = search sum_end
