-- Operations at their places in a record. Only contracts of `inner` cite this.
use Rattle.std.specs.Prelude.{ℕ, ◌+◌, ◌*◌, List, [], ◌∷◌, take, drop}
use Rattle.buffers.specs.InnerOver.{over, bytes16}
use Rattle.edits.specs.Op.{if_zero}
use Rattle.record.specs.Layout.{kinds_start, counts_start, delete_kind, insert_kind, retain_kind, start_of_text}

-- how many operations a count takes
abbrev pub one : ℕ → ℕ
one c = if_zero c 0 1

-- kind and count of operation k of n
abbrev pub written_op : ℕ → ℕ → ℕ → ℕ → List ℕ → List ℕ
written_op n k kind c o = over (counts_start n + 2 * k) (bytes16 c) (over (kinds_start + k) (kind ∷ []) o)

-- an operation is written where its count is not 0
unfoldable pub written_op_if_any : ℕ → ℕ → ℕ → ℕ → List ℕ → List ℕ
unfolding over
written_op_if_any n k kind c o = if_zero c o (written_op n k kind c o)

-- a group of an insert, a delete and a retain is written, each of which may be missing
unfoldable pub flushed_at : ℕ → ℕ → ℕ → ℕ → ℕ → List ℕ → List ℕ
unfolding written_op_if_any
flushed_at n ops ins del ret o = written_op_if_any n (ops + one ins + one del) retain_kind ret (written_op_if_any n (ops + one ins) delete_kind del (written_op_if_any n ops insert_kind ins o))

-- the first k kinds and counts of a record with places for `slots` operations, at their places in one of n
abbrev pub relocated_ops : ℕ → ℕ → ℕ → List ℕ → List ℕ → List ℕ
relocated_ops slots n k stage o = over kinds_start (take k (drop kinds_start stage)) (over (counts_start n) (take (2 * k) (drop (counts_start slots) stage)) o)

-- and t bytes of its text
unfoldable pub relocated : ℕ → ℕ → ℕ → ℕ → List ℕ → List ℕ → List ℕ
unfolding over
relocated slots n k t stage o = relocated_ops slots n k stage (over (start_of_text n) (take t (drop (start_of_text slots) stage)) o)
