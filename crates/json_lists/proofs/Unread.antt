-- Bytes behind a record's own contents aren't read when its list is written.
use Prim.Native.Nat.{ℕ}
use mathlib.Core.Path.{◌≡◌}
use mathlib.Core.List.{List}
use Rattle.answers.specs.Output.{writing}
use Rattle.record.proofs.Unread.{Alike, same_seq}
use Rattle.json_lists.specs.Written.{written}
use Rattle.json_lists.specs.Calls.{to_json_call}

pub to_json_unread : (r s : List ℕ) → Alike r s → (out : List ℕ) → to_json_call r out ≡ to_json_call s out
unfolding to_json_call
to_json_unread r s a out = λ i. writing (a.faults i) (written (same_seq a i)) out
