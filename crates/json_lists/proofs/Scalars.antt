-- The characters that escapes name: which numbers are scalar values, and what their bytes are.
use Prim.Native.Nat.{ℕ, ◌<◌}
use native.Mathlib.Omega.{arith}
use mathlib.Core.Path.{◌≡◌, refl, sym, ap, ◌∙◌}
use mathlib.Core.Logic.{⊎_elim}
use mathlib.Core.Bool.{true, false, not, true≢false}
use mathlib.Core.List.{List, [], ◌∷◌, append-nil}
use lib.Dec.{T}
use lib.ListN.{length}
use borrow.Author.Tests.{lt-ltb, le-ltb, not-true}
use Rattle.buffers.specs.Lists.{all_of}
use Rattle.buffers.proofs.Tests.{holds, known}
use Rattle.characters.specs.Form.{is_well_formed, well_char}
use Rattle.characters.specs.Chars.{is_continuation, number_of_chars}
use Rattle.characters.specs.Scalar.{is_scalar, encode_scalar}
use Rattle.characters.proofs.Leads.{le_or_lt, inside, within_bounds}
use Rattle.characters.proofs.Chars.{split, is_char, well_concat, well_is_char}
use Rattle.characters.proofs.Codes.{encode_1, encode_2, encode_3, encode_4, scalar_low, scalar_high}
use Rattle.characters.proofs.Scalars.{encode_well}
use Rattle.json_lists.specs.Form.{is_high, is_low, paired}
use Rattle.json_lists.specs.InnerRuns.{width}

-- ---- which numbers are scalar values

-- a number of four hexadecimal digits that is no surrogate is a scalar value
pub named_scalar : (v : ℕ) → v < 0x10000 → is_high v ≡ false → is_low v ≡ false → T (is_scalar v)
unfolding is_high is_low
named_scalar v h x y =
    ⊎_elim
    (λ k. ⊎_elim
    (λ l. ⊎_elim
    (λ m. scalar_high v m (omega arith))
    (λ m. absurd (true≢false (sym (inside 0xDC00 0xDFFF v l (omega arith)) ∙ y)))
    (le_or_lt 0xE000 v))
    (λ l. absurd (true≢false (sym (inside 0xD800 0xDBFF v k (omega arith)) ∙ x)))
    (le_or_lt 0xDC00 v))
    (λ k. scalar_low v (omega arith))
    (le_or_lt 0xD800 v)

-- a surrogate pair is one scalar value from 10000 up
pub paired_scalar : (high low : ℕ) → T (is_high high) → T (is_low low) → T (is_scalar (paired high low))
unfolding is_high is_low paired
paired_scalar high low h l =
    let (a, b) = within_bounds 0xD800 0xDBFF high h in
    let (c, d) = within_bounds 0xDC00 0xDFFF low l in
    scalar_high (paired high low) (omega arith) (omega arith)

-- ---- their bytes

-- a scalar value's bytes are well-formed text
pub encode_text : (v : ℕ) → T (is_scalar v) → T (is_well_formed (encode_scalar v))
encode_text v s =
    let c = encode_scalar v in
    known (ap is_well_formed (sym (append-nil c)) ∙ well_concat (c ∷ []) (rw (holds (well_char c) (encode_well v s))))

conts_none : (bs : List ℕ) → all_of is_continuation bs ≡ true → number_of_chars bs ≡ 0
conts_none [] e = refl
conts_none (b ∷ bs) e = let (x, y) = split (is_continuation b) (all_of is_continuation bs) e in rw (x, conts_none bs y)

pub one_char : (c : List ℕ) → is_char c ≡ true → number_of_chars c ≡ 1
one_char [] e = absurd (true≢false (sym e))
one_char (b ∷ bs) e = let (x, y) = split (not (is_continuation b)) (all_of is_continuation bs) e in rw (not-true (is_continuation b) x, conts_none bs y)

-- they are one character
pub encode_chars : (v : ℕ) → T (is_scalar v) → number_of_chars (encode_scalar v) ≡ 1
encode_chars v s = let c = encode_scalar v in one_char c (well_is_char c (holds (well_char c) (encode_well v s)))

-- there are one to four of them
pub encode_length : (v : ℕ) → length (encode_scalar v) ≡ width v
unfolding width
encode_length v =
    ⊎_elim
    (λ a. rw (encode_1 v a, lt-ltb v 0x80 (omega arith)))
    (λ a. ⊎_elim
    (λ b. rw (encode_2 v a b, le-ltb v 0x80 a, lt-ltb v 0x800 (omega arith)))
    (λ b. ⊎_elim
    (λ c. rw (encode_3 v b c, le-ltb v 0x80 (omega arith), le-ltb v 0x800 b, lt-ltb v 0x10000 (omega arith)))
    (λ c. rw (encode_4 v c, le-ltb v 0x80 (omega arith), le-ltb v 0x800 (omega arith), le-ltb v 0x10000 c))
    (le_or_lt v 0xFFFF))
    (le_or_lt v 0x7FF))
    (le_or_lt v 0x7F)
