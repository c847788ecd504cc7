-- What the functions of `transform` promise each other: the answer with both outputs.
use Rattle.std.specs.Prelude.{◌≡◌, ℕ, List, Result}
use Rattle.answers.specs.Answer.{pair_of}
use Rattle.operational_transform.specs.Calls.{transform_call}
use Rattle.answers.specs.declared.Refusal.{Refusal}

pub record Transforms (a b x y : List ℕ) (r : Result (ℕ × ℕ) Refusal) (x' y' : List ℕ) : Type 0 where
  pub answer : pair_of r ≡ (transform_call a b x y).answer
  pub out_a : x' ≡ (transform_call a b x y).out_a
  pub out_b : y' ≡ (transform_call a b x y).out_b
