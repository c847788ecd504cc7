use Rattle.entries.proofs.Tallying.{enter_retain, enter_insert, enter_delete, enter_other}
use Rattle.entries.proofs.inner.add_entry_by_kind.Goals as goal

pub returns-then-kind-eq-RETAIN : goal.returns-then-kind-eq-RETAIN
returns-then-kind-eq-RETAIN c = search enter_retain

pub returns-then-kind-eq-INSERT : goal.returns-then-kind-eq-INSERT
returns-then-kind-eq-INSERT c = search enter_insert

pub returns-then-kind-eq-DELETE : goal.returns-then-kind-eq-DELETE
returns-then-kind-eq-DELETE c = search enter_delete

pub returns : goal.returns
returns c = search enter_other
