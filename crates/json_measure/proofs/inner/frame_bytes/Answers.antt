use Rattle.json_measure.proofs.Values.{frame_retain, frame_insert, frame_delete}
use borrow.Author.Rules.{rules}
use Rattle.json_measure.proofs.inner.frame_bytes.Goals as goal

pub returns-then-kind-eq-RETAIN : goal.returns-then-kind-eq-RETAIN
returns-then-kind-eq-RETAIN c = (search frame_retain, search rules)

pub returns-then-kind-eq-INSERT : goal.returns-then-kind-eq-INSERT
returns-then-kind-eq-INSERT c = (search frame_insert, search rules)

pub returns : goal.returns
returns c = (search frame_delete, search rules)
