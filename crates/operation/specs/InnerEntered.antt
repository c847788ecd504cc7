-- What the two parts of the check promise each other. Only contracts of `inner` cite this.
use Rattle.std.specs.Prelude.{ℕ, cond, List, Result, Ok, Err}
use Rattle.edits.specs.Op.{base, total}
use Rattle.edits.specs.Built.{chained}
use Rattle.answers.specs.declared.Refusal.TheVariants.{Size, Entry}
use Rattle.record.specs.Layout.{op_count_of, text_bytes_of}
use Rattle.record.specs.Record.{byte_ops, is_within_limits, sound}
use Rattle.tally.specs.InnerSums.{keeps}
use Rattle.operation.specs.declared.inner.Totals.{Totals}
use Rattle.answers.specs.declared.Refusal.{Refusal}

unfoldable pub totals_of : List ℕ → Totals
unfolding byte_ops
totals_of r = record { ops = op_count_of r; text = text_bytes_of r; ordered = chained (byte_ops r); base = base (byte_ops r); kept = total keeps (byte_ops r) }

-- 1 and 2, or what the entries come to
unfoldable pub entered_of : List ℕ → Result Totals Refusal
unfolding is_within_limits sound totals_of
entered_of r = cond (is_within_limits r) (cond (sound r) (Ok (totals_of r)) (Err Entry)) (Err Size)
