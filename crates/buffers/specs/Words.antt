-- Numbers in bytes: "unsigned 16-bit, low byte first".
use Rattle.std.specs.Prelude.{ℕ, ◌/◌, ◌%◌, suc, ◌+◌, ◌*◌, List, [], ◌∷◌, get_or}

abbrev pub words : List ℕ → List ℕ
words [] = []
words (n ∷ ns) = n % 256 ∷ n / 256 ∷ words ns

abbrev pub word_at : List ℕ → ℕ → ℕ
word_at l i = get_or l i 0 + 256 * get_or l (suc i) 0
