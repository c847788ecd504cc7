use Rattle.std.proofs.Common.{◌∙◌}
use Rattle.characters.proofs.Passed.{well_ascii, form_tells}
use Rattle.utf8.proofs.well_formed.Goals as goal

pub returns-then-i-text : goal.returns-then-i-text
returns-then-i-text c = search well_ascii

pub returns : goal.returns
returns c = c.is_some.ensures ∙ form_tells _ _ c.form_from.ensures
