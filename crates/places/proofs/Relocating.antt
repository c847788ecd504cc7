-- Kinds, counts and text of a record with more places, at their places in one of n operations.
use Rattle.std.specs.Prelude.{◌≡◌, ℕ, ◌+◌, ◌-◌, ◌*◌, List, take, drop}
use native.Mathlib.Omega.{arith}
use mathlib.Core.Path.{ap, ◌∙◌}
use Rattle.buffers.specs.InnerOver.{over}
use Rattle.record.specs.Layout.{kinds_start, counts_start, start_of_text}
use Rattle.places.specs.InnerOps.{relocated_ops, relocated}

part_is : (p q a b m : ℕ) (s o : List ℕ) → p ≡ q → a ≡ b → over p (take (a + m - a) (drop a s)) o ≡ over q (take m (drop b s)) o
part_is p q a b m s o x y = let z : a + m - a ≡ m = omega arith in λ i. over (x i) (take (z i) (drop (y i) s)) o

pub settles_records : (slots n k : ℕ) (stage o : List ℕ) {a c d : ℕ} {o₁ o₂ : List ℕ} → a ≡ kinds_start + 0 → c ≡ counts_start slots + 2 * 0 → d ≡ counts_start n + 2 * 0
    → o₁ ≡ over d (take (c + 2 * k - c) (drop c stage)) o → o₂ ≡ over a (take (a + k - a) (drop a stage)) o₁ → o₂ ≡ relocated_ops slots n k stage o
settles_records slots n k stage o {a} {c} {d} pa pc pd q r =
    let a8 : a ≡ kinds_start = omega arith in
    let cs : c ≡ counts_start slots = omega arith in
    let dn : d ≡ counts_start n = omega arith in
    r
    ∙ part_is a kinds_start a kinds_start k stage _ a8 a8
    ∙ ap (over kinds_start (take k (drop kinds_start stage))) (q ∙ part_is d (counts_start n) c (counts_start slots) (2 * k) stage o dn cs)

pub settles : (slots n k t : ℕ) (stage o : List ℕ) {a c f x d : ℕ} {o₁ o₂ o₃ : List ℕ} → a ≡ kinds_start + 0 → c ≡ counts_start slots + 2 * 0 → f ≡ start_of_text slots → x ≡ start_of_text n → d ≡ counts_start n + 2 * 0
    → o₁ ≡ over x (take (f + t - f) (drop f stage)) o → o₂ ≡ over d (take (c + 2 * k - c) (drop c stage)) o₁ → o₃ ≡ over a (take (a + k - a) (drop a stage)) o₂ → o₃ ≡ relocated slots n k t stage o
unfolding relocated
settles slots n k t stage o {a} {c} {f} {x} {d} {o₁} pa pc pf px pd p q r =
    settles_records slots n k stage o₁ pa pc pd q r ∙ ap (relocated_ops slots n k stage) (p ∙ part_is x (start_of_text n) f (start_of_text slots) t stage o px pf)
