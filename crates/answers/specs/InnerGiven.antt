-- What the functions below an entry promise it. No entry's contract cites this.
use Rattle.std.specs.Prelude.{ℕ, ◌≡◌, List, Result}
use Rattle.answers.specs.Output.{Out}
use Rattle.answers.specs.Answer.{answer_of}
use Rattle.answers.specs.declared.Refusal.{Refusal}

-- the answer and the output are a call's
pub record Gives (c : Out) (w : Result ℕ Refusal) (o : List ℕ) : Type 0 where
  pub answer : answer_of w ≡ c.answer
  pub out : o ≡ c.out
