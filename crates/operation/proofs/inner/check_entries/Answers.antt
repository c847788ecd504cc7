use Rattle.operation.proofs.Answers.{entered_1, entered_2, entered_2', entered_0, has_header, has_entries}
use Rattle.operation.proofs.inner.check_entries.Goals as goal

pub returns-then-not-in_limits : goal.returns-then-not-in_limits
returns-then-not-in_limits c = search entered_1

pub op_count-n-requires : goal.op_count-n-requires
op_count-n-requires c = search has_header

pub text_bytes-text-requires : goal.text_bytes-text-requires
text_bytes-text-requires c = search has_header

pub sum_up-requires : goal.sum_up-requires
sum_up-requires c = search has_entries

pub returns-in_default : goal.returns-in_default
returns-in_default c = search entered_2

pub returns-then-sums-text : goal.returns-then-sums-text
returns-then-sums-text c = search entered_2'

pub returns : goal.returns
returns c = search entered_0
