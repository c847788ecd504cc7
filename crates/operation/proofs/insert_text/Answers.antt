use Rattle.operation.proofs.Answers.{passed_header, passed_kinds, passed_sound, text_is, text_other, text_past, text_refused, text_room}
use borrow.Author.Rules.{rules}
use Rattle.operation.proofs.insert_text.Goals as goal

pub returns-in_default : goal.returns-in_default
returns-in_default c = search text_refused

pub op_count-n-requires : goal.op_count-n-requires
op_count-n-requires c = search passed_header

pub returns-then-n-k : goal.returns-then-n-k
returns-then-n-k c = search text_past

pub kind-kind-requires : goal.kind-kind-requires
kind-kind-requires c = search (passed_kinds, rules)

pub returns-then-kind-ne-INSERT : goal.returns-then-kind-ne-INSERT
returns-then-kind-ne-INSERT c = search text_other

pub text_at-from-requires : goal.text_at-from-requires
text_at-from-requires c = search (passed_sound, rules)

pub count-requires : goal.count-requires
count-requires c = search (passed_kinds, rules)

pub slice_bounds-result-end-2 : goal.slice_bounds-result-end-2
slice_bounds-result-end-2 c = search (text_room, rules)

pub returns : goal.returns
returns c = search text_is
