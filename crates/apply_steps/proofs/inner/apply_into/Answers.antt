use mathlib.Core.Path.{refl, sym}
use Rattle.buffers.proofs.Over.{over_nil}
use Rattle.apply_steps.proofs.Overs.{laid_more, laid_all}
use Rattle.apply_steps.proofs.Playing.{stage_start, stage_end}
use borrow.Author.Rules.{rules}
use Rattle.apply_steps.proofs.inner.apply_into.Goals as goal

pub loop-s-init : goal.loop-s-init
loop-s-init c = (search stage_start, sym (over_nil 0 _), refl)

pub loop-s-preserved : goal.loop-s-preserved
loop-s-preserved c = (search rules, search laid_more, search rules)

pub returns : goal.returns
returns c = (search stage_end, search (laid_all, stage_end))
