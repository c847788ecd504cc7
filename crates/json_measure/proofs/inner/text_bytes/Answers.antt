use Rattle.std.specs.Prelude.{◌-◌}
use Rattle.json_measure.proofs.Texts.{few_past, sized_first, sized_ill, sized_more, sized_end}
use borrow.Author.Rules.{rules}
use Rattle.json_measure.proofs.inner.text_bytes.Goals as goal

pub loop-at-init : goal.loop-at-init
loop-at-init c = search sized_first

pub returns-then-x-eq0 : goal.returns-then-x-eq0
returns-then-x-eq0 c = search sized_ill

pub overflow_add-chars : goal.overflow_add-chars
overflow_add-chars c = let h = few_past _ _ _ _ c.plain-s.ensures in search rules

pub overflow_add-chars-in-loop-at : goal.overflow_add-chars-in-loop-at
overflow_add-chars-in-loop-at c = let h = few_past _ _ _ _ c.plain-s.ensures in search rules

pub loop-at-preserved : goal.loop-at-preserved
loop-at-preserved c = search sized_more

pub returns : goal.returns
returns c = search sized_end
