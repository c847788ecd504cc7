-- What a step finds, as the code comes upon it.
use Rattle.std.specs.Prelude.{◌≡◌, ℕ, ◌+◌, ◌<◌, ◌≤◌, List, [], ◌∷◌, Result, Ok, Err, Option, Some, None}
use native.Mathlib.Omega.{arith}
use mathlib.Core.Path.{refl, ap, ap₂}
use borrow.Author.Tests.{le-ltb, lt-ltb}
use Rattle.answers.specs.Answer.{success, answer_of}
use Rattle.answers.specs.declared.Refusal.{Refusal}
use Rattle.record.specs.Kinds.{number_of}
use Rattle.record.specs.declared.inner.Kind.{Kind}
use Rattle.record.specs.Layout.{op_count_of, kind_at, count_at}
use Rattle.record.specs.Calls.{check_call}
use Rattle.record.proofs.Checked.{stopped, passed}
use Rattle.walker.specs.declared.Op.{Op}
use Rattle.walker.specs.Walk.{found_of, step_call, behind, next_at}

module _ (r : List ℕ) (at : ℕ) where
  -- the position goes with what is found
  goes : (s : Option Op) → found_of s ≡ step_call r at → behind (found_of s) at ≡ next_at r at
  goes s e = ap (λ a. behind a at) e

  module _ (f : Result ℕ Refusal) (p : answer_of f ≡ check_call r) where
    module _ (x : Refusal) (q : f ≡ Err x) where
      pub refused_end : found_of None ≡ step_call r at
      unfolding step_call
      refused_end = rw (stopped r f p x q).fault refl

      pub refused_stays : at ≡ next_at r at
      refused_stays = goes None refused_end

    module _ (s : ℕ) (q : f ≡ Ok s) (n : ℕ) (e : n ≡ op_count_of r) where
      module _ (h : n ≤ at) where
        pub past_end : found_of None ≡ step_call r at
        unfolding step_call
        past_end = rw (passed r f p s q, le-ltb at (op_count_of r) (omega arith)) refl

        pub past_stays : at ≡ next_at r at
        past_stays = goes None past_end

      module _ (h : at < n) (k : Kind) (c : ℕ) (a : number_of k ≡ kind_at r at) (b : c ≡ count_at r at) where
        pub finds : found_of (Some (record { kind = k; count = c })) ≡ step_call r at
        unfolding step_call
        finds = rw (passed r f p s q, lt-ltb at (op_count_of r) (omega arith)) (ap₂ (λ x y. success (x ∷ y ∷ [])) a b)

        pub moves : at + 1 ≡ next_at r at
        moves = goes (Some (record { kind = k; count = c })) finds
