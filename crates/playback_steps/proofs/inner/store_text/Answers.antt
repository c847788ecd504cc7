use Rattle.playback_steps.proofs.Stages.{hold_short, hold_whole}
use Rattle.playback_steps.proofs.inner.store_text.Goals as goal

pub returns-then-a-text : goal.returns-then-a-text
returns-then-a-text c = search hold_short

pub returns : goal.returns
returns c = search hold_whole
