-- What can be asked of a record: for every input, one answer.
use Rattle.std.specs.Prelude.{ℕ, ◌+◌, List, [], ◌∷◌, map, get_or}
use Rattle.edits.specs.Op.{retain, insert, delete}
use Rattle.edits.specs.Sequence.{Seq}
use Rattle.answers.specs.Answer.{Answer, success, refused, unless_refused}
use Rattle.record.specs.Record.{record_fault, ops, inserted, byte_ops, entries_from, insert_bytes}
use Rattle.record.specs.Layout.{size_of, base_of, target_of, op_count_of, start_of_text}

-- a number, unless the record is refused
abbrev pub fact : List ℕ → ℕ → Answer
fact r n = unless_refused (record_fault r) refused (success (n ∷ []))

-- how many bytes the record has
unfoldable pub check_call : List ℕ → Answer
unfolding record_fault
check_call r = fact r (size_of r)

unfoldable pub base_call : List ℕ → Answer
unfolding record_fault
base_call r = fact r (base_of r)

unfoldable pub target_call : List ℕ → Answer
unfolding record_fault
target_call r = fact r (target_of r)

-- "whether it has no effect: no records, or one retain"
abbrev pub no_effect : Seq → ℕ
no_effect [] = 1
no_effect (retain n ∷ []) = 1
no_effect (insert x ∷ []) = 0
no_effect (delete n ∷ []) = 0
no_effect (o ∷ p ∷ s) = 0

unfoldable pub noop_call : List ℕ → Answer
unfolding record_fault ops
noop_call r = fact r (no_effect (ops r))

-- "The text of record k, counted from 0": empty where the record is refused, k is past the end or the kind isn't insert
unfoldable pub text_call : List ℕ → ℕ → List ℕ
unfolding record_fault byte_ops
text_call r k = unless_refused (record_fault r) (λ n. []) (get_or (map inserted (byte_ops r)) k [])

-- where it begins in the record: behind the text of the k operations before it
unfoldable pub start_of_insert : List ℕ → ℕ → ℕ
start_of_insert r k = start_of_text (op_count_of r) + insert_bytes (entries_from r 0 k)
