-- What a call gives back: document 01, "What a call gives back".
use Rattle.std.specs.Prelude.{ℕ, zero, suc, List, [], ◌∷◌, Bool, true, false, cond, Result, Ok, Err}
use Rattle.answers.specs.declared.Refusal.{Refusal}
use Rattle.answers.specs.declared.Refusal.TheVariants.{Size, Entry, Utf8, Neighbours, Sums, Log, Revision, IncompatibleLengths, Limit, Room, Json}

-- the numbers of the refusals
abbrev pub number : Refusal → ℕ
number Size = 1
number Entry = 2
number Utf8 = 3
number Neighbours = 4
number Sums = 5
number Log = 6
number Revision = 7
number IncompatibleLengths = 8
number Limit = 9
number Room = 10
number Json = 11

-- the numbers that a call gives, or the number of its refusal
pub data Answer : Type 0 where
  success : List ℕ → Answer
  refused : ℕ → Answer

abbrev pub succeeds : Answer → Bool
succeeds (success ns) = true
succeeds (refused n) = false

-- the code's answer, in the paper's numbers: a number that was asked for, or how many bytes were written
abbrev pub answer_of : Result ℕ Refusal → Answer
answer_of (Ok n) = success (n ∷ [])
answer_of (Err x) = refused (number x)

-- whether a sequence has no effect
abbrev pub noop_of : Result Bool Refusal → Answer
noop_of (Ok true) = success (1 ∷ [])
noop_of (Ok false) = success (0 ∷ [])
noop_of (Err x) = refused (number x)

-- how many bytes were written to either output
abbrev pub pair_of : Result (ℕ × ℕ) Refusal → Answer
pair_of (Ok (p, q)) = success (p ∷ q ∷ [])
pair_of (Err x) = refused (number x)

-- where a test fails, its number; else what comes after
abbrev pub needs : Bool → ℕ → ℕ → ℕ
needs test n k = cond test k n

-- the first of two refusals, where there is one; 0 is none
abbrev pub or_else : ℕ → ℕ → ℕ
or_else zero k = k
or_else (suc n) k = suc n

-- a call goes through where nothing refuses it
abbrev pub unless_refused : {A : Type 0} → ℕ → (ℕ → A) → A → A
unless_refused zero f x = x
unless_refused (suc n) f x = f (suc n)
