use Rattle.std.specs.Prelude.{◌≡◌, ◌+◌, ◌-◌, ◌≤◌, T, length, drop}
use Rattle.characters.specs.Form.{is_well_formed}
use Rattle.characters.specs.Chars.{take_chars}
use Rattle.utf8.proofs.inner.skip.Given as goal

abbrev pub invariant-loop-passed : goal.invariant-loop-passed
invariant-loop-passed l = (l.i ≤ length l.bytes) × T (is_well_formed (drop l.i l.bytes))
    × (l.i + length (take_chars (l.k - l._passed) (drop l.i l.bytes)) ≡ l.at + length (take_chars l.k (drop l.at l.bytes)))
