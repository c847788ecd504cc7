-- Rows of edits: each one's base is the length before it.
use Rattle.std.specs.Prelude.{◌≡◌, ℕ, List, [], ◌∷◌, ◌++◌}
use mathlib.Core.Path.{refl}
use Rattle.edits.specs.Op.{target, base}
use Rattle.edits.specs.Sequence.{Seq}

abbrev pub Each : {A : Type 0} → (A → Type 0) → List A → Type 0
Each P [] = Unit {0}
Each P (x ∷ xs) = P x × Each P xs

pub each_append : {A : Type 0} (P : A → Type 0) (xs ys : List A) → Each P xs → Each P ys → Each P (xs ++ ys)
each_append P [] ys h k = k
each_append P (x ∷ xs) ys h k = (h.0, each_append P xs ys h.1 k)

-- the length after a row
abbrev pub length_after : ℕ → List Seq → ℕ
length_after n [] = n
length_after n (e ∷ es) = length_after (target e) es

abbrev pub Row : ℕ → List Seq → Type 0
Row n [] = Unit {0}
Row n (e ∷ es) = (base e ≡ n) × Row (target e) es

pub row_append : (n : ℕ) (es vs : List Seq) → Row n es → Row (length_after n es) vs → Row n (es ++ vs)
row_append n [] vs r w = w
row_append n (e ∷ es) vs r w = (r.0, row_append (target e) es vs r.1 w)

pub row_left : (n : ℕ) (es vs : List Seq) → Row n (es ++ vs) → Row n es
row_left n [] vs r = tt
row_left n (e ∷ es) vs r = (r.0, row_left (target e) es vs r.1)

pub row_right : (n : ℕ) (es vs : List Seq) → Row n (es ++ vs) → Row (length_after n es) vs
row_right n [] vs r = r
row_right n (e ∷ es) vs r = row_right (target e) es vs r.1

pub after_append : (n : ℕ) (es vs : List Seq) → length_after n (es ++ vs) ≡ length_after (length_after n es) vs
after_append n [] vs = refl
after_append n (e ∷ es) vs = after_append (target e) es vs
