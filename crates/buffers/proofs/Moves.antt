-- A few bytes laid over others by two moves that overlap.
use Prim.Native.Nat.{ℕ, ◌+◌, ◌≤◌, ◌-◌}
use native.Mathlib.Omega.{arith}
use mathlib.Core.Path.{◌≡◌, sym, ◌∙◌, ap}
use mathlib.Core.List.{List, ◌++◌, append_assoc}
use lib.ListN.{length, drop, length-drop, take, take-append-drop}
use lib.Seq.{paste, take_all, take-take, take-append-add, take-append-le, drop-paste, drop-drop, length-take-le, length_paste_head}

-- the first w bytes and then the last w
pub two_moves : (w : ℕ) (d : List ℕ) (at : ℕ) (s x y : List ℕ) → w ≤ length s → length s ≤ w + w → at + length s ≤ length d
    → x ≡ paste d at (drop 0 s) w → y ≡ paste x (at + (length s - w)) (drop (length s - w) s) w → y ≡ take at d ++ s ++ drop (at + length s) d
two_moves w d at s x y h l f p q =
    let k = length s - w in
    let e : at + k + w ≡ at + length s = omega arith in
    let a : take (at + k) x ≡ take at d ++ take k s = rw p (head k (omega arith)) in
    let b : drop (at + k + w) x ≡ drop (at + length s) d = rw (p, e) tail in
    let z : take w (drop k s) ≡ drop k s = take_all w (drop k s) (simp length-drop (omega arith)) in
    q ∙ (λ i. a i ++ z i ++ b i) ∙ ap (λ l. l ++ drop (at + length s) d) (append_assoc (take at d) (take k s) (drop k s) ∙ ap (λ l. take at d ++ l) (take-append-drop k s))
  where
    n_front : length (take at d ++ take w s) ≡ at + w
    n_front = length_paste_head d at s w (omega arith) h

    head : (k : ℕ) → k ≤ w → take (at + k) (paste d at s w) ≡ take at d ++ take k s
    head k m =
        let n : length (take at d) ≡ at = length-take-le at d (omega arith) in
        take-append-le (at + k) (take at d ++ take w s) (drop (at + w) d) (omega (arith, n_front))
        ∙ ap (λ j. take (j + k) (take at d ++ take w s)) (sym n)
        ∙ take-append-add (take at d) (take w s) k
        ∙ ap (λ l. take at d ++ l) (take-take k w s m)

    tail : drop (at + length s) (paste d at s w) ≡ drop (at + length s) d
    tail =
        let r : at + length s ≡ at + w + (length s - w) = omega arith in
        rw (r, ← drop-drop (length s - w) (at + w) (paste d at s w), drop-paste d at s w (omega arith) h) (drop-drop (length s - w) (at + w) d)
