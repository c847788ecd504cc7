-- Bytes that are no continuations, marked in a word. Only contracts of inner functions cite this.
use Rattle.std.specs.Prelude.{ℕ, ◌+◌, ◌*◌, ◌/◌, ◌%◌, ◌-◌, ◌^◌, ◌≤◌, ◌<◌, cond, List, [], ◌∷◌, drop, length, ◌≡◌}
use Rattle.std.specs.Int.Bits.{bit_and}
use Rattle.characters.specs.Chars.{is_continuation, number_of_chars}

-- the lowest bit of each byte of a word
abbrev pub low_bits : ℕ
low_bits = 0x0101_0101_0101_0101

-- 1 in the place of each byte that is no continuation, the first byte lowest
abbrev pub marks_of : List ℕ → ℕ
marks_of [] = 0
marks_of (b ∷ bs) = marks_of bs * 256 + cond (is_continuation b) 0 1

-- how many characters are marked and how many begin from `at` on, by 255
unfoldable pub count_mod255 : List ℕ → ℕ → ℕ → ℕ
count_mod255 t at marks = (marks + number_of_chars (drop at t)) % 255

-- marked from `at` on to `to`, where fewer than n bytes are left
pub record Further (t : List ℕ) (at sum to marks n : ℕ) : Type 0 where
  pub same : count_mod255 t to marks ≡ count_mod255 t at sum
  pub below : to ≤ length t
  pub few : length t - to < n

-- the top bit of each byte of x is set exactly where that of bs is no continuation, whatever the other bits are
pub record Starts (x : ℕ) (bs : List ℕ) : Type 0 where
  pub tops : bit_and (x / 2 ^ 7) low_bits ≡ marks_of bs
