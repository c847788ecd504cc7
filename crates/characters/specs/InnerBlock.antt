-- Only contracts of inner functions cite this. What may stand behind three bytes.
use Rattle.std.specs.Prelude.{ℕ, ◌+◌, ◌*◌, ◌-◌, ◌≤◌, ◌<◌, Bool, true, false, not, ◌||◌, ◌&&◌, cond, ◌≡◌, eqb, leb, List, get_or, length, drop, Some}
use Rattle.std.specs.Bool.{beq}
use Rattle.characters.specs.Form.{within, lead_from, well_formed_from, is_well_formed, Lead}
use Rattle.characters.specs.Chars.{is_continuation, number_of_chars}
use Rattle.characters.specs.InnerPassed.{Passed}

abbrev pub bit_of : Bool → ℕ
bit_of true = 1
bit_of false = 0

abbrev pub mask_of : Bool → ℕ
mask_of true = 0xFF
mask_of false = 0

-- r is true only where P holds
pub record OnlyIf (r : Bool) (P : Type 0) : Type 0 where
  pub so : r ≡ true → P

-- x is 0 exactly where u is false
pub record Tells (x : ℕ) (u : Bool) : Type 0 where
  pub zero : eqb x 0 ≡ not u

-- whether a continuation must follow p3 p2 p1
unfoldable pub due_of : ℕ → ℕ → ℕ → Bool
due_of p3 p2 p1 = leb 0xC0 p1 || leb 0xE0 p2 || leb 0xF0 p3

-- how many of them ask for it
unfoldable pub asking : ℕ → ℕ → ℕ → ℕ
asking p3 p2 p1 = bit_of (leb 0xC0 p1) + bit_of (leb 0xE0 p2) + bit_of (leb 0xF0 p3)

-- how many bytes before belong to a character that is to go on
unfoldable pub pending_of : ℕ → ℕ → ℕ → ℕ
pending_of p3 p2 p1 = bit_of (leb 0xC0 p1) + 2 * bit_of (leb 0xE0 p2) + 3 * bit_of (leb 0xF0 p3)

-- b is in no text
unfoldable pub invalid_byte_of : ℕ → Bool
invalid_byte_of b = within 0xC0 0xC1 b || leb 0xF5 b

-- the continuation b is outside of the range that p asks for
unfoldable pub outside_of : ℕ → ℕ → Bool
outside_of p b =
    eqb p 0xE0 && within 0x80 0x9F b || eqb p 0xED && not (within 0x80 0x9F b) || eqb p 0xF0 && within 0x80 0x8F b || eqb p 0xF4 && not (within 0x80 0x8F b)

-- b may not stand behind p3 p2 p1
unfoldable pub misplaced_of : ℕ → ℕ → ℕ → ℕ → Bool
misplaced_of p3 p2 p1 b = not (beq (is_continuation b) (due_of p3 p2 p1)) || invalid_byte_of b || outside_of p1 b

-- what p3 p2 p1 ask for
unfoldable pub asked : ℕ → ℕ → ℕ → Lead
asked p3 p2 p1 =
    cond (leb 0xC0 p1) (lead_from p1) (Some ((bit_of (leb 0xE0 p2) + bit_of (leb 0xF0 p2) + bit_of (leb 0xF0 p3)), 0x80, 0xBF))

-- what a function of three bytes is of those before i
abbrev pub before : {A : Type 0} → (ℕ → ℕ → ℕ → A) → List ℕ → ℕ → A
before f t i = f (get_or t (i - 3) 0) (get_or t (i - 2) 0) (get_or t (i - 1) 0)

-- gone through up to i, which may be inside of a character
pub record Window (t : List ℕ) (i conts : ℕ) : Type 0 where
  pub three : 3 ≤ i
  pub below : i ≤ length t
  pub few : conts ≤ i
  pub num : i + number_of_chars (drop i t) ≡ conts + number_of_chars t
  pub begins : invalid_byte_of (get_or t (i - 1) 0) ≡ false
  pub single : before asking t i ≤ 1
  pub enough : before pending_of t i ≤ conts + 1
  pub ahead : well_formed_from (drop i t) (before asked t i) ≡ is_well_formed t
  pub behind : (n : ℕ) → n ≡ before pending_of t i → Passed t (i - n) (conts - (n - 1))

-- each byte from `at` to `to` may stand behind the three before it
pub record StandWell (t : List ℕ) (at to : ℕ) : Type 0 where
  pub each : (k : ℕ) → at ≤ k → k < to → before misplaced_of t k (get_or t k 0) ≡ false

-- the bytes from `at` to `to`, `more` of them continuations; they may stand there where `bad` is 0
pub record Goes (t : List ℕ) (at to bad more : ℕ) : Type 0 where
  pub few : at + more ≤ to
  pub below : to ≤ length t
  pub num : at + number_of_chars (drop at t) + more ≡ to + number_of_chars (drop to t)
  pub well : bad ≡ 0 → StandWell t at to
