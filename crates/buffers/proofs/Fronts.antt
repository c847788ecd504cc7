-- The front of a list, as far as its elements pass a test.
use Rattle.std.specs.Prelude.{◌≡◌, ◌+◌, suc, List, [], ◌∷◌, Bool, true, false, T, refl}
use Rattle.std.specs.List.{prefix_len}
use Rattle.std.proofs.Common.{take, arith}
use Rattle.buffers.specs.Lists.{all_of}

more : {A : Type 0} (p : A → Bool) (x : A) (xs : List A) (b : Bool) → p x ≡ b → T (all_of p (take (prefix_len p xs) xs)) → T (all_of p (take (prefix_len p (x ∷ xs)) (x ∷ xs)))
more p x xs false e h = rw e tt
more p x xs true e h =
    let n : 1 + prefix_len p xs ≡ suc (prefix_len p xs) = omega arith in
    rw (e, n, e) h

pub all_front : {A : Type 0} (p : A → Bool) (xs : List A) → T (all_of p (take (prefix_len p xs) xs))
all_front p [] = tt
all_front p (x ∷ xs) = more p x xs (p x) refl (all_front p xs)
