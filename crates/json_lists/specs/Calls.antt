-- What the two calls give back and leave in their output.
use Rattle.std.specs.Prelude.{ℕ, List, [], map}
use Rattle.std.proofs.Math.Option.{Option, none, some}
use Rattle.characters.specs.Text.{Char, chars}
use Rattle.edits.specs.Op.{Op, retain, insert, delete}
use Rattle.edits.specs.Sequence.{Seq}
use Rattle.record.specs.Record.{ops, record_fault}
use Rattle.edits.specs.Build.{build}
use Rattle.answers.specs.Output.{Out, writing}
use Rattle.operational_transform.specs.Calls.{deliver}
use Rattle.json_lists.specs.Form.{plus, minus, Item, number, string, read}
use Rattle.json_lists.specs.Written.{written}

-- "a positive whole number retains, a negative one deletes, a string inserts"
unfoldable pub op_of : Item → Op Char
unfolding chars
op_of (number plus n) = retain n
op_of (number minus n) = delete n
op_of (string t) = insert (chars t)

-- "Read such a list through the builders"
unfoldable pub ops_of : List Item → Seq
unfolding op_of build
ops_of l = build (map op_of l)

-- "Errors: 11, tested before any other number"; "9 is given where the record would pass a limit"; 10
abbrev pub made : Option (List Item) → List ℕ → Out
made none out = writing 11 [] out
made (some l) out = deliver 0 (ops_of l) out

unfoldable pub from_json_call : List ℕ → List ℕ → Out
unfolding read ops_of writing deliver
from_json_call list out = made (read list) out

-- the record's own numbers, then 10
unfoldable pub to_json_call : List ℕ → List ℕ → Out
unfolding written record_fault ops writing
to_json_call rec out = writing (record_fault rec) (written (ops rec)) out
