use Rattle.std.specs.Prelude.{◌-◌}
use Rattle.json_strings.proofs.Spans.{begun, few_conts, span_stops, span_char, span_whole}
use Rattle.json_strings.proofs.inner.plain.Goals as goal

pub loop-i-init : goal.loop-i-init
loop-i-init c = search begun

pub overflow_sub-result-then-more-eq0 : goal.overflow_sub-result-then-more-eq0
overflow_sub-result-then-more-eq0 c = search few_conts

pub returns-then-more-eq0 : goal.returns-then-more-eq0
returns-then-more-eq0 c = search span_stops

pub loop-i-preserved : goal.loop-i-preserved
loop-i-preserved c = let f = c.if-more-eq0.false in search (span_char, f)

pub overflow_sub-result-3 : goal.overflow_sub-result-3
overflow_sub-result-3 c = search few_conts

pub returns : goal.returns
returns c = search span_whole
