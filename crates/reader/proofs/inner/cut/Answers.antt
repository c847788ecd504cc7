use Rattle.std.specs.Prelude.{◌+◌, ◌≤◌}
use Rattle.reader.proofs.Fronts.{cut_all, cut_none, cut_plain, cut_skip, skip_room, skip_well}
use borrow.Author.Rules.{rules}
use Rattle.reader.proofs.inner.cut.Goals as goal

pub returns-then-k-f : goal.returns-then-k-f
returns-then-k-f c = search cut_all

pub returns-then-from-to : goal.returns-then-from-to
returns-then-from-to c = search cut_none

pub returns-then-to-from : goal.returns-then-to-from
returns-then-to-from c = search cut_plain

pub skip-requires : goal.skip-requires
skip-requires c = (search rules, search skip_well)

pub overflow_add-result-2 : goal.overflow_add-result-2
overflow_add-result-2 c = let f = c.args.f in
    let h : f.from + c.skip.result ≤ f.to = search skip_room in
    search rules

pub returns : goal.returns
returns c = search cut_skip
