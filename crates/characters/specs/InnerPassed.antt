-- How far a text was gone through, and what it is found to be. Only contracts of inner functions cite this.
use Rattle.std.specs.Prelude.{ℕ, ◌+◌, ◌≤◌, suc, cond, Bool, true, List, ◌≡◌, length, drop, eqb, Option, Some, None}
use Rattle.characters.specs.Form.{is_well_formed, Lead}
use Rattle.characters.specs.Chars.{number_of_chars}

unfoldable pub form_of : List ℕ → Option ℕ
form_of t = cond (is_well_formed t) (Some (number_of_chars t)) None

-- whole characters up to `at`, with so many continuations among their bytes
pub record Passed (t : List ℕ) (at conts : ℕ) : Type 0 where
  pub below : at ≤ length t
  pub few : conts ≤ at
  pub well : is_well_formed (drop at t) ≡ is_well_formed t
  pub num : at + number_of_chars (drop at t) ≡ conts + number_of_chars t

-- a character of n bytes, where such a first byte begins one
abbrev pub spans : Lead → ℕ → Bool
spans None n = true
spans (Some (more, lo, hi)) n = eqb n (suc more)
