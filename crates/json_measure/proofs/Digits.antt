-- How many digits a number has.
use Rattle.std.specs.Prelude.{◌≡◌, ℕ, zero, suc, ◌/◌, ◌<◌, ◌≤◌, length}
use native.Mathlib.Omega.{arith}
use lib.ListN.{length-append}
use borrow.Author.Tests.{lt-ltb, le-ltb}
use Rattle.json_lists.specs.Written.{decimal_in, decimal}

-- n has k digits, by any fuel that is enough
record Long (n k : ℕ) : Type 0 where
  pub is : (f : ℕ) → n < f → length (decimal_in f n) ≡ k

one : (n : ℕ) → n < 10 → Long n 1
unfolding decimal_in
one n h = record { is = go }
  where
    go : (f : ℕ) → n < f → length (decimal_in f n) ≡ 1
    go zero l = absurd (omega arith)
    go (suc f) l = rw (lt-ltb n 10 h)

more : (n k : ℕ) → 10 ≤ n → Long (n / 10) k → Long n (suc k)
unfolding decimal_in
more n k h g = record { is = go }
  where
    go : (f : ℕ) → n < f → length (decimal_in f n) ≡ suc k
    go zero l = absurd (omega arith)
    go (suc f) l = rw (le-ltb n 10 h) (simp length-append (omega (arith, g.is f (omega arith))))

long : {n k : ℕ} → Long n k → k ≡ length (decimal n)
unfolding decimal
long {n} {k} g = omega (arith, g.is (suc n) (omega arith))

module _ (n : ℕ) where
  pub digits_1 : n < 10 → 1 ≡ length (decimal n)
  digits_1 h = long (one n h)

  pub digits_2 : 10 ≤ n → n < 100 → 2 ≡ length (decimal n)
  digits_2 h l = long (more n 1 h (one (n / 10) (omega arith)))

  pub digits_3 : 100 ≤ n → n < 1000 → 3 ≡ length (decimal n)
  digits_3 h l = long (more n 2 (omega arith) (more (n / 10) 1 (omega arith) (one (n / 10 / 10) (omega arith))))

  pub digits_4 : 1000 ≤ n → n < 10000 → 4 ≡ length (decimal n)
  digits_4 h l = long (more n 3 (omega arith) (more (n / 10) 2 (omega arith) (more (n / 10 / 10) 1 (omega arith) (one (n / 10 / 10 / 10) (omega arith)))))

  pub digits_5 : 10000 ≤ n → n < 65536 → 5 ≡ length (decimal n)
  digits_5 h l =
      long
      (more n 4 (omega arith) (more (n / 10) 3 (omega arith) (more (n / 10 / 10) 2 (omega arith) (more (n / 10 / 10 / 10) 1 (omega arith) (one (n / 10 / 10 / 10 / 10) (omega arith))))))
