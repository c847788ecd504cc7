-- What the functions that write a list promise each other. Only inner contracts cite this.
use Rattle.std.specs.Prelude.{ℕ, ◌+◌, ◌≡◌, List, [], ◌∷◌, ◌++◌, length}
use Rattle.buffers.specs.InnerOver.{over}
use Rattle.json_lists.specs.Written.{escaped_all}

-- the bytes xs are written at `at`, and `to` is behind them
pub record Puts (at : ℕ) (xs o : List ℕ) (to : ℕ) (o' : List ℕ) : Type 0 where
  pub ends : to ≡ at + length xs
  pub wrote : o' ≡ over at xs o

-- to write xs at `at` is as good as to write xs' at at' afterwards
pub record Goes (at : ℕ) (xs o : List ℕ) (at' : ℕ) (xs' o' : List ℕ) : Type 0 where
  pub ends : at' + length xs' ≡ at + length xs
  pub same : over at' xs' o' ≡ over at xs o
  pub long : length o' ≡ length o

-- a text as a string
unfoldable pub quoted : List ℕ → List ℕ
quoted t = 0x22 ∷ (escaped_all t ++ (0x22 ∷ []))
