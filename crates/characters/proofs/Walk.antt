-- A walk over a list: what is left at i begins with the element at i.
use Rattle.std.specs.Prelude.{Some}
use Prim.Native.Nat.{ℕ, ◌+◌, ◌<◌, suc, ◌≤◌}
use native.Mathlib.Numerals.{add-one}
use mathlib.Core.Path.{◌≡◌}
use mathlib.Core.List.{List, ◌∷◌}
use lib.ListN.{length, get_or, drop, drop_of_length-le}
use lib.Seq.{drop-cons, take-nil}
use mathlib.Core.Bool.{true, false}
use Rattle.characters.specs.Form.{lead_from, well_formed_from}
use Rattle.characters.specs.Chars.{is_continuation, number_of_chars, take_chars}

pub next : (s : List ℕ) (i : ℕ) → i < length s → drop i s ≡ get_or s i 0 ∷ drop (i + 1) s
next s i h = rw (add-one, drop-cons s i 0)

module _ (s : List ℕ) (i : ℕ) (h : i < length s) where
  pub num_cont : is_continuation (get_or s i 0) ≡ true → number_of_chars (drop i s) ≡ number_of_chars (drop (i + 1) s)
  num_cont e = rw (next s i h, e)

  pub num_start : is_continuation (get_or s i 0) ≡ false → number_of_chars (drop i s) ≡ suc (number_of_chars (drop (i + 1) s))
  num_start e = rw (next s i h, e)

  pub rest_lead : (n lo hi : ℕ) → n ≡ 0 → well_formed_from (drop i s) (Some (n, lo, hi)) ≡ well_formed_from (drop (i + 1) s) (lead_from (get_or s i 0))
  rest_lead n lo hi z = rw (z, next s i h)

pub take_end : (s : List ℕ) (i k : ℕ) → length s ≤ i → length (take_chars k (drop i s)) ≡ 0
take_end s i k h = rw (drop_of_length-le s h, take-nil)
