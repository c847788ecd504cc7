use Rattle.apply_steps.proofs.Passing.{passes_plain, passes_skip}
use Rattle.apply_steps.proofs.inner.skip_chars.Goals as goal

pub returns-then-chars-text : goal.returns-then-chars-text
returns-then-chars-text c = search passes_plain

pub returns : goal.returns
returns c = search passes_skip
