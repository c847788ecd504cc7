use Rattle.characters.proofs.Passed.{all_ascii}
use Rattle.utf8.proofs.inner.typed_form.Goals as goal

pub returns-then-i-text : goal.returns-then-i-text
returns-then-i-text c = search all_ascii
