use native.Mathlib.Omega.{arith}
use Rattle.reader.proofs.Fronts.{load_end, load_insert, load_other, load_room}
use borrow.Author.Rules.{rules}
use Rattle.reader.proofs.inner.load.Goals as goal

pub returns-then-n-k : goal.returns-then-n-k
returns-then-n-k c = search load_end

pub count_in-chars-requires : goal.count_in-chars-requires
count_in-chars-requires c = (omega arith, search (load_room, rules))

pub returns-then-kind-eq-AT_INSERT : goal.returns-then-kind-eq-AT_INSERT
returns-then-kind-eq-AT_INSERT c = search load_insert

pub returns : goal.returns
returns c = search load_other
