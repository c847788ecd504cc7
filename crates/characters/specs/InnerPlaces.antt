-- Places in a text between characters. Only contracts of inner functions cite this.
use Rattle.std.specs.Prelude.{ℕ, ◌-◌, ◌≤◌, ◌≡◌, List, T, length, take, drop}
use Rattle.characters.specs.Form.{is_well_formed}
use Rattle.characters.specs.Text.{chars, bytes}

-- `to` is the place k characters behind `at`, or the end
pub record Passes (t : List ℕ) (at k to : ℕ) : Type 0 where
  pub above : at ≤ to
  pub below : to ≤ length t
  pub part : take (to - at) (drop at t) ≡ bytes (take k (chars (drop at t)))
  pub left : chars (drop to t) ≡ drop k (chars (drop at t))
  pub well : T (is_well_formed (drop to t))
