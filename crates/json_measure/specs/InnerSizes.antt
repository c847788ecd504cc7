-- How many bytes the parts of a list have. Only inner contracts cite this.
use Rattle.std.specs.Prelude.{ℕ, ◌+◌, cond, List, [], ◌∷◌, length, Option, Some, None, Result, Ok, Err}
use Rattle.buffers.specs.Lists.{all_of}
use Rattle.characters.specs.Form.{is_well_formed}
use Rattle.characters.specs.Chars.{number_of_chars}
use Rattle.edits.specs.Op.{if_zero, Op, retain, insert, delete}
use Rattle.answers.specs.Answer.{Answer, success, refused, number, unless_refused}
use Rattle.record.specs.Layout.{op_count_of}
use Rattle.record.specs.Record.{Entry, operation, text_of, byte_ops, well_inserted, record_fault, ops}
use Rattle.json_lists.specs.Written.{decimal, escaped_all, written}
use Rattle.json_measure.specs.declared.inner.Texts.{Texts}
use Rattle.json_measure.specs.declared.inner.Measured.{Measured}
use Rattle.answers.specs.declared.Refusal.{Refusal}

-- a value's bytes without an insert's text
unfoldable pub frame : Op ℕ → ℕ
unfolding decimal
frame (retain n) = length (decimal n)
frame (insert t) = 2
frame (delete n) = length (decimal n) + 1

abbrev pub entry_frame : Entry → ℕ
entry_frame e = frame (operation e.kind e.count [])

-- the brackets, and the commas between n values
abbrev pub marks_of : ℕ → ℕ
marks_of n = if_zero n 2 (n + 1)

-- a text's characters and its bytes in strings
unfoldable pub sizes_of : List ℕ → Option Texts
sizes_of t = cond (is_well_formed t) (Some (record { chars = number_of_chars t; bytes = length (escaped_all t) })) None

-- those of all inserts, where each is well-formed
unfoldable pub inserts_of : List ℕ → Option Texts
unfolding text_of byte_ops
inserts_of r = cond (all_of well_inserted (byte_ops r)) (Some (record { chars = number_of_chars (text_of r); bytes = length (escaped_all (text_of r)) })) None

abbrev pub measured_of : Result Measured Refusal → Answer
measured_of (Ok m) = success (m.ops ∷ m.bytes ∷ [])
measured_of (Err x) = refused (number x)

-- the record's own refusal, or how many operations it has and how many bytes its list
unfoldable pub measure_call : List ℕ → Answer
unfolding record_fault ops written
measure_call r = unless_refused (record_fault r) refused (success (op_count_of r ∷ length (written (ops r)) ∷ []))
