-- The program `play`: what it writes for its standard input. Document 01, "The program `play` ..".
use Rattle.std.specs.Prelude.{◌≡◌, ℕ, ◌+◌, ◌/◌, ◌%◌, ◌≤◌, cond, List, [], ◌∷◌, ◌++◌, length, drop, nat_le, nat_lt}
use Rattle.buffers.specs.Buffers.{put_at_front}
use Rattle.answers.specs.Answer.{needs, or_else, unless_refused}
use Rattle.session_log.specs.Log.{size_of_log, readable}
use Rattle.session.specs.Session.{play_fault, played}

-- a number below 100 in decimal
abbrev pub decimal : ℕ → List ℕ
decimal n = cond (nat_lt n 10) ((0x30 + n) ∷ []) ((0x30 + n / 10) ∷ (0x30 + n % 10) ∷ [])

-- "`refused `, the number and a line end"
unfoldable pub complaint : ℕ → List ℕ
complaint n = (0x72 ∷ 0x65 ∷ 0x66 ∷ 0x75 ∷ 0x73 ∷ 0x65 ∷ 0x64 ∷ 0x20 ∷ []) ++ (decimal n ++ (0x0A ∷ []))

-- "a log, then the text in the bytes left"
unfoldable pub text_in : List ℕ → List ℕ
unfolding size_of_log
text_in input = drop (size_of_log input) input

-- the program's room
abbrev pub max_input : ℕ
max_input = 65536

-- "input over 65,536 bytes is `refused 10`, before all else. Its scratch buffers and output have 65,536 bytes each. A log that
-- can't be read gives 6 and its text isn't looked at."
unfoldable pub program_fault : List ℕ → ℕ
unfolding readable text_in play_fault played
program_fault input =
    needs (nat_le (length input) max_input) 10
    (needs (readable input) 6
    (or_else (play_fault input (text_in input) max_input max_input) (needs (nat_le (length (played input (text_in input))) max_input) 10 0)))

-- "It writes the played text and no line end", or the complaint
unfoldable pub program : List ℕ → List ℕ
unfolding program_fault complaint played text_in
program input = unless_refused (program_fault input) complaint (played input (text_in input))

-- the bytes w are written to the front of the output o, which is o' afterwards, and n tells how many they are
pub record Writes (w o : List ℕ) (n : ℕ) (o' : List ℕ) : Type 0 where
  pub size : n ≡ length w
  pub inside : n ≤ length o'
  pub out : o' ≡ put_at_front w o
