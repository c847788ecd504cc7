-- Bytes laid over a buffer from a place on. What does not fit falls away, so these laws ask for no room.
use Prim.Native.Nat.{ℕ, zero, suc, ◌+◌, ◌≤◌, min, ◌%◌, ◌/◌, ◌-◌, ◌<◌}
use mathlib.Core.Path.{◌≡◌, refl, ap, sym, ◌∙◌}
use mathlib.Core.List.{List, [], ◌∷◌, ◌++◌}
use lib.ListN.{length, take, drop, set, length-take, length-drop}
use native.Mathlib.Nat.{zero-add, suc-add, not-suc-le-zero, le_of_suc-le-suc}
use native.Mathlib.Omega.{arith}
use lib.Seq.{length-take-le, take-take}
use Rattle.buffers.specs.InnerOver.{over, bytes16}
use Rattle.buffers.specs.Buffers.{put_at_front}

pub length_over : (p : ℕ) (xs o : List ℕ) → length (over p xs o) ≡ length o
unfolding over
length_over zero [] o = refl
length_over zero (x ∷ xs) [] = refl
length_over zero (x ∷ xs) (y ∷ o) = ap suc (length_over zero xs o)
length_over (suc p) xs [] = refl
length_over (suc p) xs (y ∷ o) = ap suc (length_over p xs o)

pub over_nil : (p : ℕ) (o : List ℕ) → over p [] o ≡ o
unfolding over
over_nil zero o = refl
over_nil (suc p) [] = refl
over_nil (suc p) (y ∷ o) = ap (λ r. y ∷ r) (over_nil p o)

-- over an empty buffer
pub over_none : (p : ℕ) (xs : List ℕ) → over p xs [] ≡ []
unfolding over
over_none zero [] = refl
over_none zero (x ∷ xs) = refl
over_none (suc p) xs = refl

-- a second run that begins where the first ends
pub over_join : (p : ℕ) (xs ys o : List ℕ) → over (p + length xs) ys (over p xs o) ≡ over p (xs ++ ys) o
unfolding over
over_join zero [] ys o = refl
over_join zero (x ∷ xs) ys [] = rw (zero-add (suc (length xs)))
over_join zero (x ∷ xs) ys (y ∷ o) = rw (zero-add (suc (length xs))) (ap (λ r. x ∷ r) (rw (zero-add (length xs)) at (over_join zero xs ys o)))
over_join (suc p) xs ys [] = rw suc-add
over_join (suc p) xs ys (y ∷ o) = rw suc-add (ap (λ r. y ∷ r) (over_join p xs ys o))

-- two runs that do not meet
pub over_swap : (p q : ℕ) (xs ys o : List ℕ) → p + length xs ≤ q → over q ys (over p xs o) ≡ over p xs (over q ys o)
unfolding over
over_swap zero q [] ys o h = refl
over_swap zero zero (x ∷ xs) ys o h = absurd (not-suc-le-zero (rw (zero-add (suc (length xs))) at h))
over_swap zero (suc q) (x ∷ xs) ys [] h = refl
over_swap zero (suc q) (x ∷ xs) ys (y ∷ o) h = ap (λ r. x ∷ r) (over_swap zero q xs ys o (omega arith))
over_swap (suc p) zero xs ys o h = absurd (omega arith)
over_swap (suc p) (suc q) xs ys [] h = refl
over_swap (suc p) (suc q) xs ys (y ∷ o) h = ap (λ r. y ∷ r) (over_swap p q xs ys o (omega arith))

-- a second run as long as the first, at the same place
pub over_again : (p : ℕ) (xs ys o : List ℕ) → length xs ≡ length ys → over p xs (over p ys o) ≡ over p xs o
unfolding over
over_again zero [] [] o h = refl
over_again zero [] (y ∷ ys) o h = absurd (omega arith)
over_again zero (x ∷ xs) [] o h = absurd (omega arith)
over_again zero (x ∷ xs) (y ∷ ys) [] h = refl
over_again zero (x ∷ xs) (y ∷ ys) (z ∷ o) h = ap (λ r. x ∷ r) (over_again zero xs ys o (omega arith))
over_again (suc p) xs ys [] h = refl
over_again (suc p) xs ys (z ∷ o) h = ap (λ r. z ∷ r) (over_again p xs ys o h)

-- where there is room, bytes laid over the front stand there
pub over_front : (xs o : List ℕ) → length xs ≤ length o → over 0 xs o ≡ put_at_front xs o
unfolding over put_at_front
over_front [] o h = refl
over_front (x ∷ xs) [] h = absurd (not-suc-le-zero h)
over_front (x ∷ xs) (y ∷ o) h = ap (λ r. x ∷ r) (over_front xs o (le_of_suc-le-suc h))

-- and anywhere
pub over_at : (p : ℕ) (xs o : List ℕ) → p + length xs ≤ length o → over p xs o ≡ take p o ++ xs ++ drop (p + length xs) o
unfolding over put_at_front
over_at zero xs o h = rw (zero-add (length xs)) (over_front xs o (omega arith))
over_at (suc p) xs [] h = absurd (omega arith)
over_at (suc p) xs (y ∷ o) h = rw suc-add (ap (λ r. y ∷ r) (over_at p xs o (omega arith)))

-- bytes behind the buffer's end count for nothing
over_room : (p k : ℕ) (xs o : List ℕ) → min (length o) (p + length xs) ≤ p + k → over p (take k xs) o ≡ over p xs o
unfolding over
over_room zero zero [] o h = refl
over_room zero zero (x ∷ xs) [] h = refl
over_room zero zero (x ∷ xs) (y ∷ o) h = absurd (omega arith)
over_room zero (suc k) [] o h = refl
over_room zero (suc k) (x ∷ xs) [] h = refl
over_room zero (suc k) (x ∷ xs) (y ∷ o) h = ap (λ r. x ∷ r) (over_room zero k xs o (omega arith))
over_room (suc p) k xs [] h = refl
over_room (suc p) k xs (y ∷ o) h = ap (λ r. y ∷ r) (over_room p k xs o (omega arith))

pub over_behind : (p : ℕ) (xs o : List ℕ) → length o ≤ p → o ≡ over p xs o
over_behind p xs o h = sym (over_nil p o) ∙ over_room p 0 xs o (omega arith)

-- ---- `put`, `put16`, `copy`

pub put_in : (o : List ℕ) (i v : ℕ) → set o i v ≡ over i (v ∷ []) o
unfolding over
put_in [] zero v = refl
put_in [] (suc i) v = refl
put_in (x ∷ o) zero v = refl
put_in (x ∷ o) (suc i) v = ap (λ r. x ∷ r) (put_in o i v)

pub put_out : (o : List ℕ) (i v : ℕ) → length o ≤ i → o ≡ over i (v ∷ []) o
put_out o i v h = over_behind i (v ∷ []) o h

pub put16_both : (at v : ℕ) (o : List ℕ) {o₁ o₂ : List ℕ} → o₁ ≡ over at (v % 256 ∷ []) o → o₂ ≡ over (at + 1) (v / 256 % 256 ∷ []) o₁ → o₂ ≡ over at (bytes16 v) o
put16_both at v o h k = k ∙ ap (over (at + 1) (v / 256 % 256 ∷ [])) h ∙ over_join at (v % 256 ∷ []) (v / 256 % 256 ∷ []) o

module _ (at from to : ℕ) (s o : List ℕ) where
  pub copy_out : length o ≤ at → o ≡ over at (take (to - from) (drop from s)) o
  copy_out h = over_behind at (take (to - from) (drop from s)) o h

  pub copy_in : (len : ℕ) {o₁ : List ℕ} → at < length o → from ≤ to → to ≤ length s → len ≡ min (to - from) (length o - at)
      → o₁ ≡ take at o ++ take (from + len - from) (drop from s) ++ drop (at + length (take (from + len - from) (drop from s))) o
      → o₁ ≡ over at (take (to - from) (drop from s)) o
  copy_in len h f t≤ e p =
      let k : from + len - from ≡ len = omega arith in
      let t = take len (drop from s) in
      let m : length t ≡ len = length-take-le len (drop from s) (omega (arith, length-drop from s)) in
      p
      ∙ ap (λ j. take at o ++ take j (drop from s) ++ drop (at + length (take j (drop from s))) o) k
      ∙ sym (over_at at t o (omega arith))
      ∙ ap (λ t. over at t o) (sym (take-take len (to - from) (drop from s) (omega arith)))
      ∙ over_room at len (take (to - from) (drop from s)) o (omega (arith, length-take (to - from) (drop from s)))
