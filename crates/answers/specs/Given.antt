-- What a call has written: "Results stand at the front of their buffer", as many bytes as its answer says.
use Rattle.std.specs.Prelude.{ℕ, List, [], ◌∷◌, take}
use Rattle.answers.specs.Answer.{Answer, success, refused}
use Rattle.answers.specs.Output.{Out, Outs}

-- the first and the second number of an answer; 0 where there is none
abbrev pub first_of : List ℕ → ℕ
first_of [] = 0
first_of (n ∷ ns) = n

abbrev pub second_of : List ℕ → ℕ
second_of [] = 0
second_of (n ∷ ns) = first_of ns

abbrev pub numbers : Answer → List ℕ
numbers (success ns) = ns
numbers (refused n) = []

abbrev pub given : Out → List ℕ
given o = take (first_of (numbers o.answer)) o.out

abbrev pub given_a : Outs → List ℕ
given_a o = take (first_of (numbers o.answer)) o.out_a

abbrev pub given_b : Outs → List ℕ
given_b o = take (second_of (numbers o.answer)) o.out_b
