-- Bytes below 80: each is a character by itself, and white space, digits and the letters of escapes are such bytes.
use Rattle.std.specs.Prelude.{Some}
use Prim.Native.Nat.{ℕ, ◌≤◌, ◌<◌}
use native.Mathlib.Omega.{arith}
use mathlib.Core.Path.{◌≡◌, sym, ap, ◌∙◌}
use mathlib.Core.Logic.{⊎_elim}
use mathlib.Core.Bool.{Bool, true, false, ◌||◌, false≢true}
use mathlib.Core.List.{List, [], ◌∷◌}
use lib.Dec.{T, eqb}
use borrow.Author.Tests.{eqb-true, ne_eqb}
use Rattle.characters.specs.Form.{rows, lead_from, well_formed_from, is_well_formed}
use Rattle.buffers.proofs.Tests.{known}
use Rattle.characters.proofs.Leads.{le_or_lt, over, lead_row}
use Rattle.json_lists.specs.Form.{is_white_space, is_digit, is_digit1_9, is_hex}

module _ (b : ℕ) where
  pub lead_ascii : b < 0x80 → lead_from b ≡ Some (0, 0x80, 0xBF)
  unfolding rows
  lead_ascii h = sym (lead_row 0 0x00 0x7F tt (omega arith) (omega arith))

  -- a text that begins with such a byte is as well-formed as the rest of it
  pub ascii_on : (bs : List ℕ) → b < 0x80 → is_well_formed (b ∷ bs) ≡ is_well_formed bs
  ascii_on bs h = ap (well_formed_from bs) (lead_ascii h)

  pub ascii_well : b < 0x80 → T (is_well_formed (b ∷ []))
  ascii_well h = known (ascii_on [] h)

  -- ---- tests that only bytes below 80 pass

  pub low_eq : (k : ℕ) → k < 0x80 → eqb b k ≡ true → b < 0x80
  low_eq k h e = let z = eqb-true b k e in omega arith

  -- a test that fails from 80 up
  low_test : {t : Bool} → (0x80 ≤ b → t ≡ false) → t ≡ true → b < 0x80
  low_test h e = ⊎_elim (λ k. absurd (false≢true (sym (h k) ∙ e))) (λ k. k) (le_or_lt 0x80 b)

  pub low_space : is_white_space b ≡ true → b < 0x80
  unfolding is_white_space
  low_space =
      low_test
      (λ h. rw (ne_eqb b 0x20 (λ e. omega arith), ne_eqb b 0x09 (λ e. omega arith), ne_eqb b 0x0A (λ e. omega arith), ne_eqb b 0x0D (λ e. omega arith)))

  pub low_digit1_9 : is_digit1_9 b ≡ true → b < 0x80
  unfolding is_digit1_9
  low_digit1_9 = low_test (λ h. over _ _ b (omega arith))

  pub low_digit : is_digit b ≡ true → b < 0x80
  unfolding is_digit
  low_digit = low_test (λ h. over 0x30 0x39 b (omega arith))

  pub low_hex : is_hex b ≡ true → b < 0x80
  unfolding is_hex
  low_hex = low_test (λ h. rw (over 0x30 0x39 b (omega arith), over 0x41 0x46 b (omega arith), over 0x61 0x66 b (omega arith)))

  -- a quotation mark, a backslash or a slash
  pub low_self : (eqb b 0x22 || eqb b 0x5C || eqb b 0x2F) ≡ true → b < 0x80
  low_self = low_test (λ h. rw (ne_eqb b 0x22 (λ e. omega arith), ne_eqb b 0x5C (λ e. omega arith), ne_eqb b 0x2F (λ e. omega arith)))
