-- The inverse of an edit: it deletes just what the edit typed, and types just what the edit deleted.
use Prim.Native.Nat.{ℕ, zero, suc, ◌+◌}
use mathlib.Core.Path.{◌≡◌, refl, sym, ap, ap₂, ◌∙◌}
use mathlib.Core.Bool.{Bool, true, false, not}
use mathlib.Core.List.{List, [], ◌∷◌, ◌++◌, map, map-append}
use native.Mathlib.Omega.{arith}
use lib.ListN.{length, take, drop, replicate, length-replicate, replicate-append-replicate}
use lib.Seq.{take_at, drop_at}
use Rattle.edits.specs.Op.{Op, retain, insert, delete, base}
use Rattle.edits.specs.Invert.{undo_all, invert}
use Rattle.edits.specs.Trace.{typed, stays, marked, carry}
use Rattle.edits.proofs.Building.{build_same}
use Rattle.edits.proofs.Kept.{typed_lasts}
use Rattle.edits.proofs.Marks.{stays_lasts, marked_retain, marked_delete}

pub map_replicate : {A B : Type 0} (f : A → B) (n : ℕ) (x : A) → map f (replicate n x) ≡ replicate n (f x)
map_replicate f zero x = refl
map_replicate f (suc n) x = ap (λ l. f x ∷ l) (map_replicate f n x)

nots : (n : ℕ) (b : Bool) (ms : List Bool) → map not (replicate n b ++ ms) ≡ replicate n (not b) ++ map not ms
nots n b ms = map-append not (replicate n b) ms ∙ ap (λ l. l ++ map not ms) (map_replicate not n b)

split : (k m n : ℕ) → k + m ≡ n → replicate n false ≡ replicate k false ++ replicate m false
split k m n e = ap (λ j. replicate j false) (sym e) ∙ sym (replicate-append-replicate k m false)

taken : (k m n : ℕ) → k + m ≡ n → take k (replicate n false) ≡ replicate k false
taken k m n e = ap (take k) (split k m n e) ∙ take_at (replicate k false) (replicate m false) k (length-replicate k false)

dropped : (k m n : ℕ) → k + m ≡ n → drop k (replicate n false) ≡ replicate m false
dropped k m n e = ap (drop k) (split k m n e) ∙ drop_at (replicate k false) (replicate m false) k (length-replicate k false)

module _ {C : Type 0} where
  undo_deletes : (s : List (Op C)) (t : List C) (n : ℕ) → base s ≡ n → map not (stays (undo_all s t)) ≡ carry true s (replicate n false)
  undo_deletes [] t n e = refl
  undo_deletes (retain k ∷ s) t n e =
      nots k true (stays (undo_all s (drop k t)))
      ∙ ap₂ ◌++◌ (sym (taken k (base s) n e)) (undo_deletes s (drop k t) (base s) refl ∙ ap (carry true s) (sym (dropped k (base s) n e)))
  undo_deletes (insert x ∷ s) t n e =
      nots (length x) false (stays (undo_all s t)) ∙ ap (λ l. replicate (length x) true ++ l) (undo_deletes s t n (omega arith))
  undo_deletes (delete k ∷ s) t n e = undo_deletes s (drop k t) (base s) refl ∙ ap (carry true s) (sym (dropped k (base s) n e))

  -- the characters that the inverse deletes are those that the edit typed
  pub invert_deletes : (s : List (Op C)) (t : List C) (n : ℕ) → base s ≡ n → map not (stays (invert s t)) ≡ carry true s (replicate n false)
  unfolding invert
  invert_deletes s t n e = ap (map not) (build_same stays stays_lasts (undo_all s t)) ∙ undo_deletes s t n e

  undo_types : (s : List (Op C)) (t : List C) → typed (undo_all s t) ≡ marked (map not (stays s)) t
  undo_types [] t = refl
  undo_types (retain n ∷ s) t =
      undo_types s (drop n t) ∙ sym (marked_delete n (map not (stays s)) t) ∙ ap (λ ms. marked ms t) (sym (nots n true (stays s)))
  undo_types (insert x ∷ s) t = undo_types s t
  undo_types (delete n ∷ s) t =
      ap (λ l. take n t ++ l) (undo_types s (drop n t)) ∙ sym (marked_retain n (map not (stays s)) t)
      ∙ ap (λ ms. marked ms t) (sym (nots n false (stays s)))

  -- and it types those that the edit deleted
  pub invert_types : (s : List (Op C)) (t : List C) → typed (invert s t) ≡ marked (map not (stays s)) t
  unfolding invert
  invert_types s t = build_same typed typed_lasts (undo_all s t) ∙ undo_types s t
