use Rattle.std.specs.Prelude.{◌+◌, ◌-◌, ◌≤◌, drop}
use Rattle.record.specs.Layout.{start_of_text}
use Rattle.record.specs.Record.{entries}
use Rattle.inserts.specs.InnerTexts.{starts_with_char}
use Rattle.inserts.proofs.Texts.{Began}
use Rattle.inserts.proofs.inner.start_well.Given as goal

abbrev pub invariant-loop-k : goal.invariant-loop-k
invariant-loop-k l = (l.k ≤ l.n + 1) × Began l.rec l.n l.k l.at (starts_with_char (entries l.rec) (drop (start_of_text l.n) l.rec))

abbrev pub decreases-loop-k : goal.decreases-loop-k
decreases-loop-k l = l.n - l.k
