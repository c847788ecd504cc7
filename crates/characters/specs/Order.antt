-- The byte order of texts: "the lesser by byte order .., a prefix being lesser than what continues it".
use Rattle.std.specs.Prelude.{ℕ, cond, List, [], ◌∷◌, ltb}
use Rattle.std.specs.declared.cmp.Ordering.{Ordering}
use Rattle.std.specs.declared.cmp.Ordering.TheVariants.{Less, Equal, Greater}
use Rattle.characters.specs.Text.{Char, bytes}

abbrev pub byte_order : List ℕ → List ℕ → Ordering
byte_order [] [] = Equal
byte_order [] (y ∷ ys) = Less
byte_order (x ∷ xs) [] = Greater
byte_order (x ∷ xs) (y ∷ ys) = cond (ltb x y) Less (cond (ltb y x) Greater (byte_order xs ys))

unfoldable pub order : List Char → List Char → Ordering
unfolding bytes
order s t = byte_order (bytes s) (bytes t)
