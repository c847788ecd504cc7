use Rattle.std.specs.Prelude.{◌-◌, [], length}
use Rattle.json_lists.specs.Form.{in_string}
use Rattle.json_texts.specs.InnerTexts.{Moved}
use Rattle.json_texts.proofs.inner.copy_eights.Given as goal

abbrev pub invariant-loop-i : goal.invariant-loop-i
invariant-loop-i l = Moved (in_string []) (in_string []) l.list l.at l.initial.out l.to l.i l.j l.out

abbrev pub decreases-loop-i : goal.decreases-loop-i
decreases-loop-i l = length l.list - l.i
