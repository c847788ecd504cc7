use Rattle.std.specs.Prelude.{◌+◌, []}
use Rattle.json_lists.specs.Form.{in_string}
use Rattle.json_texts.specs.InnerTexts.{Moved}
use Rattle.json_texts.proofs.inner.copy_singles.Given as goal

abbrev pub invariant-loop-k : goal.invariant-loop-k
invariant-loop-k l = Moved (in_string []) (in_string []) l.list l.at l.initial.out l.to (l.at + l.k) (l.to + l.k) l.out
