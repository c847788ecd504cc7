-- Operations over characters of any type `C`, and sequences of them.
use Rattle.std.specs.Prelude.{ℕ, zero, suc, ◌+◌, ◌-◌, List, [], ◌∷◌, length, take, drop}

-- one of two values, by whether a number is 0
abbrev pub if_zero : {A : Type 0} → ℕ → A → A → A
if_zero zero x y = x
if_zero (suc n) x y = y

pub data Op (C : Type 0) : Type 0 where
  retain : ℕ → Op C
  insert : List C → Op C
  delete : ℕ → Op C

module _ {C : Type 0} where
  -- an operation's characters: how many it has, takes from the text before it, and gives to the text after it
  abbrev pub size : Op C → ℕ
  size (retain n) = n
  size (insert s) = length s
  size (delete n) = n

  abbrev pub takes : Op C → ℕ
  takes (retain n) = n
  takes (insert s) = 0
  takes (delete n) = n

  abbrev pub gives : Op C → ℕ
  gives (retain n) = n
  gives (insert s) = length s
  gives (delete n) = 0

  abbrev pub total : (Op C → ℕ) → List (Op C) → ℕ
  total f [] = 0
  total f (o ∷ s) = f o + total f s

  -- "Base is retained plus deleted characters; target is retained plus inserted characters."
  abbrev pub base : List (Op C) → ℕ
  base = total takes

  abbrev pub target : List (Op C) → ℕ
  target = total gives

  -- the first `k` characters of an operation, and what is left of it
  abbrev pub cut : ℕ → Op C → Op C
  cut k (retain n) = retain k
  cut k (insert s) = insert (take k s)
  cut k (delete n) = delete k

  abbrev pub rest : ℕ → Op C → Op C
  rest k (retain n) = retain (n - k)
  rest k (insert s) = insert (drop k s)
  rest k (delete n) = delete (n - k)

  -- "a remainder stays in front", if anything is left
  abbrev pub front : Op C → List (Op C) → List (Op C)
  front o s = if_zero (size o) s (o ∷ s)
