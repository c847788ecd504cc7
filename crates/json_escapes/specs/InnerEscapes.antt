-- What is found of escapes and strings. Only contracts of inner functions cite this.
use Rattle.std.specs.Prelude.{◌≡◌, ℕ, ◌+◌, ◌<◌, ◌≤◌, cond, ◌||◌, T, List, [], ◌++◌, length, drop, ◌==◌, Option, Some, None}
use Rattle.std.proofs.Math.Option.{Option as Maybe, none}
use Rattle.characters.specs.Form.{is_well_formed}
use Rattle.characters.specs.Chars.{number_of_chars}
use Rattle.characters.specs.Scalar.{is_scalar, encode_scalar}
use Rattle.json_lists.specs.Form.{string, is_hex, value_of_hex, Place, in_string, in_unicode, after_value, named}
use Rattle.json_lists.specs.InnerRuns.{width, Onward, Passes, Fails}
use Rattle.json_escapes.specs.declared.inner.Escaped.{Escaped}
use Rattle.json_escapes.specs.declared.inner.Scanned.{Scanned}

abbrev pub hex_or_none : ℕ → Option ℕ
hex_or_none b = cond (is_hex b) (Some (value_of_hex b)) None

-- four hexadecimal digits stand at `at`, whose number is r
pub record Hex4 (t : List ℕ) (at r : ℕ) : Type 0 where
  pub few : r < 0x10000
  pub there : at + 4 ≤ length t
  pub onward : (high : Maybe ℕ) (s : List ℕ) → Onward (in_unicode high 3 0 s) (drop at t) (named high r s) (drop (at + 4) t)

-- or none do
abbrev pub Hex4At : List ℕ → ℕ → Option ℕ → Type 0
Hex4At t at (Some r) = Hex4 t at r
Hex4At t at None = (high : Maybe ℕ) (s : List ℕ) → Fails (in_unicode high 3 0 s) (drop at t)

-- behind \u
abbrev pub after_u : List ℕ → Place
after_u s = in_unicode none 3 0 s

-- the code of an escape of one letter, which is none of a surrogate's
abbrev pub short_or_none : ℕ → Option ℕ
short_or_none b =
    cond (b == 0x22 || b == 0x5C || b == 0x2F) (Some b)
    (cond (b == 0x62) (Some 0x08)
    (cond (b == 0x66) (Some 0x0C)
    (cond (b == 0x6E) (Some 0x0A)
    (cond (b == 0x72) (Some 0x0D)
    (cond (b == 0x74) (Some 0x09) None)))))

-- what stands at `at`, at a place within an escape of a string, names a scalar value
pub record Names (p : List ℕ → Place) (t : List ℕ) (at : ℕ) (r : Escaped) : Type 0 where
  pub scalar : T (is_scalar r.code)
  pub few : r.code < 0x110000
  pub there : r.to ≤ length t
  pub wide : at + width r.code ≤ r.to
  pub onward : (s : List ℕ) → Onward (p s) (drop at t) (in_string (s ++ encode_scalar r.code)) (drop r.to t)

-- or the list is none
abbrev pub EscapeAt : (List ℕ → Place) → List ℕ → ℕ → Option Escaped → Type 0
EscapeAt p t at (Some r) = Names p t at r
EscapeAt p t at None = (s : List ℕ) → Fails (p s) (drop at t)

-- a string of so many bytes and characters stands at `at`, behind its quotation mark, and ends before `to`
pub record StringAt (t : List ℕ) (at bytes chars to : ℕ) : Type 0 where
  pub text : List ℕ
  pub well : T (is_well_formed text)
  pub size : bytes ≡ length text
  pub num : chars ≡ number_of_chars text
  pub above : at < to
  pub below : to ≤ length t
  pub passes : Passes (string text) (in_string []) (drop at t) after_value (drop to t)

abbrev pub StringScanned : List ℕ → ℕ → Option Scanned → Type 0
StringScanned t at None = Fails (in_string []) (drop at t)
StringScanned t at (Some s) = StringAt t at s.bytes s.chars s.to
