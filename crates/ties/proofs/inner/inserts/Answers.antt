use native.Mathlib.Omega.{arith}
use Rattle.steps.proofs.Feeding.{fed_left, fed_right}
use Rattle.steps.proofs.Siding.{chosen_less, chosen_equal, chosen_greater}
use Rattle.steps.proofs.Stepping.{alone_first, alone_second, both_together}
use Rattle.ties.proofs.inner.inserts.Goals as goal

pub lesser_first-requires : goal.lesser_first-requires
lesser_first-requires c = fed_left c.requires.0 c.requires.1 (omega (arith, c.requires.2))

pub equal_inserts-requires : goal.equal_inserts-requires
equal_inserts-requires c = (c.requires.0, c.requires.1, search chosen_equal, c.requires.2, c.requires.3)

pub lesser_second-requires : goal.lesser_second-requires
lesser_second-requires c = fed_right c.requires.0 c.requires.1 (omega (arith, c.requires.3))

pub returns-in-Less : goal.returns-in-Less
returns-in-Less c = search (alone_first, chosen_less)

pub returns-in-Equal : goal.returns-in-Equal
returns-in-Equal c = search (both_together, chosen_equal)

pub returns-in-Greater : goal.returns-in-Greater
returns-in-Greater c = search (alone_second, chosen_greater)
