use Rattle.steps.proofs.Marking.{places_text}
use Rattle.steps.proofs.inner.place_with_text.Goals as goal

pub returns : goal.returns
returns c = search places_text
