use Rattle.steps.proofs.Siding.{uncut_x, uncut_y, both_some}
use Rattle.steps.proofs.Stepping.{together_both}
use borrow.Author.Rules.{rules}
use Rattle.rebase_steps.proofs.inner.step_both.Goals as goal

pub emit_both-p-requires : goal.emit_both-p-requires
emit_both-p-requires c = (search rules, search both_some, search rules, search rules, search uncut_x, search uncut_y, search rules)

pub rest-g-requires : goal.rest-g-requires
rest-g-requires c = search (uncut_x, rules)

pub rest-h-requires : goal.rest-h-requires
rest-h-requires c = search (uncut_y, rules, c.requires)

pub returns : goal.returns
returns c = search together_both
