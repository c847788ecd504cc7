-- std's order of lists of bytes is the byte order.
use Rattle.std.specs.Prelude.{◌≡◌, ℕ, List, [], ◌∷◌}
use Rattle.std.specs.Ordering.{nat_cmp}
use Rattle.std.specs.Cmp.Lexicographic.{slice_cmp}
use Rattle.std.proofs.Common.{refl, arith}
use Rattle.std.proofs.lemmas.Bool.Decides.{nat_tests}
use Rattle.characters.specs.Order.{byte_order}

pub cmp_order : (xs ys : List ℕ) → slice_cmp nat_cmp xs ys ≡ byte_order xs ys
cmp_order [] [] = refl
cmp_order [] (y ∷ ys) = refl
cmp_order (x ∷ xs) [] = refl
cmp_order (x ∷ xs) (y ∷ ys) = grind (arith, nat_tests, cmp_order xs ys)
