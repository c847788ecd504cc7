-- What the functions of `invert` promise each other. No entry's contract cites this.
use Rattle.std.specs.Prelude.{ℕ, ◌+◌, cond, nat_le, Result, Ok, Err, ⊤}
use Rattle.answers.specs.declared.Refusal.TheVariants.{Limit, Room}
use Rattle.record.specs.Layout.{start_of_text, max_size}
use Rattle.answers.specs.declared.Refusal.{Refusal}

-- of an inverse of `count` operations that inserts `size` bytes, into an output of `room` bytes
unfoldable pub decided_of : ℕ → ℕ → ℕ → Result ⊤ Refusal
decided_of size count room = cond (nat_le size max_size) (cond (nat_le (start_of_text count + size) room) (Ok tt) (Err Room)) (Err Limit)
