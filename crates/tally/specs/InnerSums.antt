-- What the kinds and the counts come to. Only inner contracts cite this.
use Rattle.std.specs.Prelude.{ℕ, cond, List, Option, Some, None}
use Rattle.buffers.specs.Lists.{all_of}
use Rattle.edits.specs.Op.{Op, retain, insert, delete, total, base}
use Rattle.edits.specs.Built.{chained}
use Rattle.record.specs.Record.{sound_entry, entries, byte_ops, insert_bytes}
use Rattle.tally.specs.declared.inner.Sums.{Sums}

abbrev pub keeps : Op ℕ → ℕ
keeps (retain n) = n
keeps (insert t) = 0
keeps (delete n) = 0

unfoldable pub sums_of : List ℕ → Sums
unfolding entries byte_ops
sums_of r = record { inserts = insert_bytes (entries r); ordered = chained (byte_ops r); base = base (byte_ops r); kept = total keeps (byte_ops r) }

unfoldable pub entries_of : List ℕ → Option Sums
unfolding entries sums_of
entries_of r = cond (all_of sound_entry (entries r)) (Some (sums_of r)) None
