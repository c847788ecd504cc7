-- ASCII bytes, and eight bytes as one number. Only contracts of inner functions cite this.
use Rattle.std.specs.Prelude.{ℕ, ◌+◌, ◌*◌, ◌-◌, ◌≤◌, Bool, ◌&&◌, ltb, leb, eqb, T, List, [], ◌∷◌, length, take, drop, ◌≡◌}
use Rattle.std.specs.Int.Bits.{bit_and}
use Rattle.buffers.specs.Lists.{all_of}

unfoldable pub is_ascii : ℕ → Bool
is_ascii b = ltb b 0x80

-- the first byte lowest
abbrev pub word_of : List ℕ → ℕ
word_of [] = 0
word_of (b ∷ bs) = word_of bs * 256 + b

-- sixty-four bytes are there, and ASCII
abbrev pub ahead_of : List ℕ → ℕ → Bool
ahead_of t at = leb 64 (length t - at) && all_of is_ascii (take 64 (drop at t))

-- no top bit of the eight bytes of x is set exactly where these bytes are ASCII
pub record Tops (x : ℕ) (l : List ℕ) : Type 0 where
  pub none : eqb (bit_and x 0x8080_8080_8080_8080) 0 ≡ all_of is_ascii l

-- the bytes from `at` to `to` are ASCII
pub record Runs (t : List ℕ) (at to : ℕ) : Type 0 where
  pub above : at ≤ to
  pub below : to ≤ length t
  pub plain : T (all_of is_ascii (take (to - at) (drop at t)))
