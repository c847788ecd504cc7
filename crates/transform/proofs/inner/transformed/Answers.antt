use Rattle.transform.proofs.Answering.{transforms_lengths}
use Rattle.transform.proofs.inner.transformed.Goals as goal

pub returns-then-base_a-base_b : goal.returns-then-base_a-base_b
returns-then-base_a-base_b c = search transforms_lengths
