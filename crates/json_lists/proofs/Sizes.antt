-- How long a written list is.
use Prim.Native.Nat.{ℕ, zero, suc, ◌+◌, ◌*◌, ◌/◌, ◌%◌, ◌^◌, ◌<◌, ◌≤◌}
use native.Mathlib.Nat.{pow-suc}
use native.Mathlib.Omega.{arith}
use mathlib.Core.Path.{◌≡◌}
use mathlib.Core.Bool.{Bool, true, false, cond}
use mathlib.Core.List.{List, [], ◌∷◌, ◌++◌, map}
use lib.Dec.{T, ltb}
use lib.ListN.{length, length-append}
use borrow.Author.Tests.{ltb-false}
use Rattle.characters.specs.Text.{Char, bytes}
use Rattle.edits.specs.Op.{Op, retain, insert, delete, takes, base}
use Rattle.edits.specs.Sequence.{Seq}
use Rattle.record.specs.Record.{in_bytes, inserted, text, fits}
use Rattle.record.proofs.Sequences.{fits_limits}
use Rattle.json_lists.specs.Written.{decimal_in, decimal, escaped_all, value, others, written}
use Rattle.json_lists.proofs.Strings.{cond_elim}
use Rattle.json_lists.proofs.Lengths.{escaped_all_length, extra_bytes_most}

cond_few : (k : ℕ) (t : Bool) (x y : List ℕ) → (t ≡ true → length x ≤ k) → (t ≡ false → length y ≤ k) → length (cond t x y) ≤ k
cond_few k t x y f g = cond_elim (λ (l : List ℕ). length l ≤ k) t f g

-- a number below 10 ^ k has at most k digits
digits_few : (k f n : ℕ) → n < 10 ^ suc k → length (decimal_in f n) ≤ suc k
unfolding decimal_in
digits_few k zero n h = omega arith
digits_few zero (suc f) n h =
    cond_few 1 (ltb n 10) ((0x30 + n) ∷ []) (decimal_in f (n / 10) ++ ((0x30 + n % 10) ∷ [])) (λ _. omega arith) (λ e. absurd (let z = ltb-false n 10 e in omega arith))
digits_few (suc k) (suc f) n h =
    let ih = digits_few k f (n / 10) (let e = pow-suc 10 (suc k) in omega arith) in
    cond_few (suc (suc k)) (ltb n 10) ((0x30 + n) ∷ []) (decimal_in f (n / 10) ++ ((0x30 + n % 10) ∷ [])) (λ _. omega arith) (λ _. simp length-append (omega arith))

-- a written text has at most six bytes for each of its own
escaped_all_most : (u : List ℕ) → length (escaped_all u) ≤ 6 * length u
escaped_all_most u = omega (arith, escaped_all_length u, extra_bytes_most u)

value_length : (o : Op Char) → takes o < 100000 → length (value o) ≤ 6 + 6 * length (inserted (in_bytes o))
unfolding value decimal in_bytes
value_length (retain n) h = omega (arith, digits_few 4 (suc n) n h)
value_length (insert s) h = simp length-append (omega (arith, escaped_all_most (bytes s)))
value_length (delete n) h = omega (arith, digits_few 4 (suc n) n h)

others_length : (s : Seq) → base s < 100000 → length (others s) ≤ 1 + 7 * length s + 6 * length (text (map in_bytes s))
unfolding others
others_length [] h = omega arith
others_length (o ∷ s) h = simp length-append (omega (arith, value_length o (omega arith), others_length s (omega arith)))

written_length : (s : Seq) → base s < 100000 → length (written s) ≤ 2 + 7 * length s + 6 * length (text (map in_bytes s))
unfolding written
written_length [] h = omega arith
written_length (o ∷ s) h = simp length-append (omega (arith, value_length o (omega arith), others_length s (omega arith)))

-- a record's list has at most 203,778 bytes
pub written_small : (s : Seq) → T (fits s) → length (written s) ≤ 203778
written_small s f = let l = (fits_limits s).0 f in omega (arith, written_length s (omega (arith, l.bases)), l.ops, l.text_bytes)
