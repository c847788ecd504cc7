use Rattle.steps.proofs.Siding.{chosen_both, chosen_ended, chosen_equal, chosen_first, chosen_greater, chosen_less, chosen_other, chosen_second}
use Rattle.steps.proofs.inner.whose.Goals as goal

pub returns-then-x-eq-AT_END : goal.returns-then-x-eq-AT_END
returns-then-x-eq-AT_END c = search chosen_ended

pub returns-then-y-eq-AT_END : goal.returns-then-y-eq-AT_END
returns-then-y-eq-AT_END c = search chosen_other

pub returns-in-Less : goal.returns-in-Less
returns-in-Less c = search chosen_less

pub returns-in-Equal : goal.returns-in-Equal
returns-in-Equal c = search chosen_equal

pub returns-in-Greater : goal.returns-in-Greater
returns-in-Greater c = search chosen_greater

pub returns-then-x-eq-AT_INSERT : goal.returns-then-x-eq-AT_INSERT
returns-then-x-eq-AT_INSERT c = search chosen_first

pub returns-then-y-eq-AT_INSERT-2 : goal.returns-then-y-eq-AT_INSERT-2
returns-then-y-eq-AT_INSERT-2 c = search chosen_second

pub returns : goal.returns
returns c = search chosen_both
