-- A result that goes to the front of an output.
use Rattle.std.specs.Prelude.{◌≡◌, ℕ, ◌+◌, ◌<◌, ◌≤◌, List, ◌++◌, length, take, drop, Ok, Err}
use mathlib.Core.Path.{refl, ap, ◌∙◌}
use native.Mathlib.Nat.{zero-add}
use Rattle.buffers.specs.Buffers.{put_at_front}
use Rattle.answers.specs.declared.Refusal.TheVariants.{Room}
use Rattle.answers.specs.Output.{writing}
use Rattle.answers.specs.InnerGiven.{Gives}
use Rattle.answers.proofs.Outputs.{writing_goes, writing_short, untouched}

module _ (r o : List ℕ) where
  pub deliver_short : length o < length r → Gives (writing 0 r o) (Err Room) o
  deliver_short h = let a = writing_short 0 r o refl h in record { answer = a; out = untouched 0 r o 10 a }

  pub deliver_whole : length r ≤ length o → (o' : List ℕ) → o' ≡ take 0 o ++ r ++ drop (0 + length r) o → Gives (writing 0 r o) (Ok (length r)) o'
  unfolding put_at_front
  deliver_whole h o' p =
      let a = writing_goes 0 r o refl h in
      record { answer = ap (λ y. y.answer) a; out = p ∙ ap (λ k. r ++ drop k o) (zero-add (length r)) ∙ ap (λ y. y.out) a }
