use Rattle.characters.proofs.Counted.{counted_none, counted_eight, counted_words}
use Rattle.utf8.proofs.num_chars.Goals as goal

pub loop-k-init : goal.loop-k-init
loop-k-init c = search counted_none

pub loop-k-preserved : goal.loop-k-preserved
loop-k-preserved c = search counted_eight

pub returns : goal.returns
returns c = search counted_words
