use Rattle.json_measure.proofs.Inserts.{inserts_ill, inserts_stop, inserts_start, inserts_plain}
use Rattle.json_measure.proofs.inner.insert_bytes.Goals as goal

pub returns-in_err-sizes : goal.returns-in_err-sizes
returns-in_err-sizes c = rw c.from_residual.ensures (search (inserts_ill, c.in_err-sizes.was))

pub returns-then-not-start_well : goal.returns-then-not-start_well
returns-then-not-start_well c = search (inserts_stop, c.in_ok-sizes.was)

pub returns-else-not-start_well : goal.returns-else-not-start_well
returns-else-not-start_well c = search (inserts_start, c.in_ok-sizes.was)

pub returns-else-sizes-text : goal.returns-else-sizes-text
returns-else-sizes-text c = search (inserts_plain, c.in_ok-sizes.was)
