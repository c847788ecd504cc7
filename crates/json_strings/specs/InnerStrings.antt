-- What is found in a string. Only contracts of inner functions cite this.
use Rattle.std.specs.Prelude.{ℕ, ◌-◌, ◌≤◌, Bool, ◌&&◌, T, List, length, take, drop, nat_lt}
use Rattle.buffers.specs.Lists.{all_of}
use Rattle.json_lists.specs.Grammar.{is_raw}

-- ASCII that stands for itself
unfoldable pub is_plain : ℕ → Bool
unfolding is_raw
is_plain b = is_raw b && nat_lt b 0x80

-- the bytes from `at` to `to` are such
pub record Plains (t : List ℕ) (at to : ℕ) : Type 0 where
  pub above : at ≤ to
  pub below : to ≤ length t
  pub all : T (all_of is_plain (take (to - at) (drop at t)))
