-- What the parts of the check promise each other of the inserted texts. Only inner contracts cite this.
use Rattle.std.specs.Prelude.{◌≡◌, ℕ, ◌+◌, ◌≤◌, Bool, true, cond, not, ◌&&◌, T, List, [], ◌∷◌, length, drop, ◌==◌, slice_index, Option, Some, None}
use Rattle.buffers.specs.Lists.{all_of}
use Rattle.characters.specs.Chars.{is_continuation, number_of_chars}
use Rattle.record.specs.Record.{Entry, text_of, byte_ops, well_inserted, entries, sound_entry, insert_bytes}
use Rattle.record.specs.Layout.{insert_kind, op_count_of, text_bytes_of, size_of, max_ops, max_size}
use Rattle.record.specs.InnerFront.{entries_left, byte_ops_left}

-- no insert begins with a continuation
abbrev pub starts_with_char : List Entry → List ℕ → Bool
starts_with_char [] t = true
starts_with_char (e ∷ es) t = cond (e.kind == insert_kind) (not (is_continuation (slice_index t 0)) && starts_with_char es (drop e.count t)) (starts_with_char es t)

unfoldable pub inserted_of : List ℕ → Option ℕ
unfolding text_of byte_ops
inserted_of r = cond (all_of well_inserted (byte_ops r)) (Some (number_of_chars (text_of r))) None

-- neither 1 nor 2 is found
pub record Sound (r : List ℕ) : Type 0 where
  pub few : op_count_of r ≤ max_ops
  pub short : text_bytes_of r ≤ max_size
  pub room : size_of r ≤ length r
  pub entries_sound : T (all_of sound_entry (entries r))
  pub adds_up : insert_bytes (entries r) ≡ text_bytes_of r

-- the text of the operations from k on begins at `at`
pub record Reached (r : List ℕ) (k at : ℕ) : Type 0 where
  pub whole : size_of r ≤ length r
  pub ends : at + insert_bytes (entries_left r k) ≡ size_of r
  pub left : drop k (byte_ops r) ≡ byte_ops_left r k at
