-- Where everything stands in a record of n single operations: four sizes, the kinds, the counts, the inserted text.
-- Numbers in bytes are unsigned 16-bit, low byte first.
use Rattle.std.specs.Prelude.{ℕ, ◌+◌, ◌*◌, List, get_or}
use Rattle.buffers.specs.Words.{word_at}

-- the sizes; document 01 calls the single operations records, too: "records (here the sequence's single operations)"
abbrev pub op_count_of : List ℕ → ℕ
op_count_of r = word_at r 0

abbrev pub text_bytes_of : List ℕ → ℕ
text_bytes_of r = word_at r 2

abbrev pub base_of : List ℕ → ℕ
base_of r = word_at r 4

abbrev pub target_of : List ℕ → ℕ
target_of r = word_at r 6

-- the kinds: "1 retain, 2 insert, 3 delete"
abbrev pub retain_kind : ℕ
retain_kind = 1

abbrev pub insert_kind : ℕ
insert_kind = 2

abbrev pub delete_kind : ℕ
delete_kind = 3

-- where the kinds, the counts and the text begin, and where a record ends
abbrev pub kinds_start : ℕ
kinds_start = 8

abbrev pub counts_start : ℕ → ℕ
counts_start n = kinds_start + n

abbrev pub start_of_text : ℕ → ℕ
start_of_text n = kinds_start + 3 * n

abbrev pub size_of : List ℕ → ℕ
size_of r = start_of_text (op_count_of r) + text_bytes_of r

abbrev pub kind_at : List ℕ → ℕ → ℕ
kind_at r k = get_or r (kinds_start + k) 0

abbrev pub count_at : List ℕ → ℕ → ℕ
count_at r k = word_at r (counts_start (op_count_of r) + 2 * k)

-- the limits of refusal 1: "its records exceed 1,024, or another size exceeds 32,768"; and the most bytes of a record that keeps them
abbrev pub max_ops : ℕ
max_ops = 1024

abbrev pub max_size : ℕ
max_size = 32768

abbrev pub max_record : ℕ
max_record = start_of_text max_ops + max_size
