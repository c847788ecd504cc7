-- One character of several bytes. Only contracts of inner functions cite this.
use Rattle.std.specs.Prelude.{◌≡◌, ℕ, suc, ◌+◌, ◌≤◌, false, T, List, length, take, drop, slice_index}
use Rattle.characters.specs.Form.{is_well_formed, well_char}

-- a character stands at `at`, with so many bytes behind its first, which is not ASCII; or, where there are none, no such character does
pub record CharAt (t : List ℕ) (at more : ℕ) : Type 0 where
  pub few : more ≤ 3
  pub there : at + (suc more) ≤ length t
  pub well : 1 ≤ more → T (well_char (take (suc more) (drop at t)))
  pub none : more ≡ 0 → 0x80 ≤ slice_index t at → is_well_formed (drop at t) ≡ false
