use Rattle.entries.proofs.Tallying.{sound_low, sound_high, sound_count}
use Rattle.entries.proofs.inner.is_sound.Goals as goal

pub returns-then-kind-eq0 : goal.returns-then-kind-eq0
returns-then-kind-eq0 c = search sound_low

pub returns-then-kind-gt-DELETE : goal.returns-then-kind-gt-DELETE
returns-then-kind-gt-DELETE c = search sound_high

pub returns : goal.returns
returns c = search sound_count
