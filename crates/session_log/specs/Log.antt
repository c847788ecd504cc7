-- The log of a session, as bytes: document 01, "Session", and refusal 6.
use Rattle.std.specs.Prelude.{ℕ, zero, suc, ◌+◌, Bool, true, ◌&&◌, List, [], ◌∷◌, ◌++◌, length, take, drop, ◌==◌, nat_le}
use Rattle.buffers.specs.Words.{words, word_at}
use Rattle.edits.specs.Sequence.{Seq}
use Rattle.record.specs.Record.{encode, ops, record_fault}
use Rattle.record.specs.Layout.{size_of, target_of, base_of, max_size}

-- ---- writing: "the number of revisions, the starting length, then the revisions' records end to end"

unfoldable pub encode_all : List Seq → List ℕ
unfolding encode
encode_all [] = []
encode_all (e ∷ es) = encode e ++ encode_all es

unfoldable pub log_of : ℕ → List Seq → List ℕ
unfolding encode_all
log_of start edits = words (length edits ∷ start ∷ []) ++ encode_all edits

-- ---- reading

abbrev pub count_of : List ℕ → ℕ
count_of l = word_at l 0

abbrev pub start_of : List ℕ → ℕ
start_of l = word_at l 2

-- the limit of refusal 6: "over 256 revisions"
abbrev pub max_revisions : ℕ
max_revisions = 256

-- where the records begin
abbrev pub records_start : ℕ
records_start = 4

-- the first n of the records that stand end to end in `l`: as bytes, how many bytes they are, and as sequences
abbrev pub records_in : ℕ → List ℕ → List (List ℕ)
records_in zero l = []
records_in (suc n) l = take (size_of l) l ∷ records_in n (drop (size_of l) l)

abbrev pub sizes_in : ℕ → List ℕ → ℕ
sizes_in zero l = 0
sizes_in (suc n) l = size_of l + sizes_in n (drop (size_of l) l)

unfoldable pub edits_in : ℕ → List ℕ → List Seq
unfolding ops
edits_in zero l = []
edits_in (suc n) l = ops l ∷ edits_in n (drop (size_of l) l)

-- the length after them, where it is `len` before them
abbrev pub length_in : ℕ → ℕ → List ℕ → ℕ
length_in zero len l = len
length_in (suc n) len l = length_in n (target_of l) (drop (size_of l) l)

-- none of them "meets 1 to 5", and none has a base that "isn't the length before it"
unfoldable pub readable_from : ℕ → ℕ → List ℕ → Bool
unfolding record_fault
readable_from zero len l = true
readable_from (suc n) len l =
    (record_fault l == 0) && (base_of l == len && readable_from n (target_of l) (drop (size_of l) l))

-- 6 is not found
unfoldable pub readable : List ℕ → Bool
unfolding readable_from
readable l =
    nat_le records_start (length l)
    && (nat_le (count_of l) max_revisions && (nat_le (start_of l) max_size && readable_from (count_of l) (start_of l) (drop records_start l)))

-- where revision r ends, 0 being the start; and where the log's contents do
unfoldable pub place_of : ℕ → List ℕ → ℕ
place_of r l = records_start + sizes_in r (drop records_start l)

unfoldable pub size_of_log : List ℕ → ℕ
unfolding place_of
size_of_log l = place_of (count_of l) l

-- the length after revision r, 0 being the start
unfoldable pub length_at : ℕ → List ℕ → ℕ
length_at r l = length_in r (start_of l) (drop records_start l)

-- the log's own bytes, at the front of its buffer
unfoldable pub contents : List ℕ → List ℕ
unfolding size_of_log
contents l = take (size_of_log l) l

unfoldable pub revisions : List ℕ → List Seq
unfolding edits_in
revisions l = edits_in (count_of l) (drop records_start l)
