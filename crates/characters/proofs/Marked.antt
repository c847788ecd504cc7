-- Marks of bytes that are no continuations: in a word, in a sum of words, counted, and in the last word.
use Prim.Native.Nat.{ℕ, zero, suc, ◌+◌, ◌*◌, ◌^◌, ◌≤◌, ◌-◌, ◌/◌, ◌%◌, ◌<◌}
use native.Mathlib.Omega.{arith}
use mathlib.Core.List.{List, [], ◌∷◌}
use lib.Dec.{lit≤, eqb, lit<}
use lib.ListN.{length, take, drop, length-take, length-drop, take-append-drop, drop_of_length-le}
use mathlib.Core.Path.{◌≡◌, refl, ap, ap₂, ◌∙◌, sym}
use mathlib.Core.Bool.{cond, Bool, true, false}
use lib.Bits.{bit_or, bit_and, and_block, or_block, and_mask, and_mod, or_mod, or_lt, and_le_r, and_shr, or_shr}
use lib.Count.{ones, ones_cat}
use borrow.Author.Tests.{eqb-true}
use lib.Seq.{get_or-drop, drop-drop, take_all}
use lib.Pow as Pow
use Rattle.characters.specs.InnerAscii.{word_of}
use Rattle.characters.specs.Form.{within}
use Rattle.characters.specs.Chars.{is_continuation, number_of_chars}
use Rattle.characters.specs.InnerMarks.{low_bits, marks_of, count_mod255, Starts}
use Rattle.characters.proofs.Runs.{Bytes, bytes_take}
use Rattle.characters.proofs.Bytes.{each_at}
use Rattle.characters.proofs.Bits.{not_and}
use Rattle.characters.proofs.Chars.{num_append, num_le}

-- ---- in a word

-- the lowest bit of each of n bytes, and all bits
lows : ℕ → ℕ
lows zero = 0
lows (suc n) = lows n * 2 ^ 8 + 1

full : ℕ → ℕ
full zero = 0
full (suc n) = full n * 256 + 255

below : (bs : List ℕ) → Bytes bs → word_of bs ≤ full (length bs)
unfolding full
below [] h = lit≤ tt
below (b ∷ bs) h = omega (arith, h 0, below bs (λ k. h (suc k)))

-- one byte: its top bit is not set, or the next is
mark : (b : ℕ) → b < 256 → bit_or ((255 - b) / 128) (b / 64 % 2) ≡ cond (is_continuation b) 0 1
unfolding is_continuation within
mark b h = eqb-true _ _ (each_at (λ b. eqb (bit_or ((255 - b) / 128) (b / 64 % 2)) (cond (is_continuation b) 0 1)) 0 256 b refl (omega arith) h)

-- all bytes
words : (bs : List ℕ) → Bytes bs → bit_and (bit_or ((full (length bs) - word_of bs) / 2 ^ 7) (word_of bs / 2 ^ 6)) (lows (length bs)) ≡ marks_of bs
unfolding lows full
words [] h = refl
words (b ∷ bs) h =
    let b<256 = h 0 in
    let W = word_of bs in
    let C = full (length bs) - W in
    let l = below bs (λ k. h (suc k)) in
    let x = C % 128 * 2 + (255 - b) / 128 in
    let y = W % 64 * 4 + b / 64 in
    let p : (full (length bs) * 256 + 255 - (W * 256 + b)) / 2 ^ 7 ≡ C / 2 ^ 7 * 2 ^ 8 + x = omega arith in
    let q : (W * 256 + b) / 2 ^ 6 ≡ W / 2 ^ 6 * 2 ^ 8 + y = omega arith in
    let x2 : x % 2 ^ 1 ≡ (255 - b) / 128 = omega arith in
    let y2 : y % 2 ^ 1 ≡ b / 64 % 2 = omega arith in
    let z : bit_and (bit_or x y) 1 ≡ cond (is_continuation b) 0 1 = and_mask (bit_or x y) 1 ∙ or_mod x y 1 ∙ ap₂ bit_or x2 y2 ∙ mark b b<256 in
    ap₂ (λ u v. bit_and (bit_or u v) (lows (length bs) * 2 ^ 8 + 1)) p q
    ∙ ap (λ u. bit_and u (lows (length bs) * 2 ^ 8 + 1)) (or_block 8 (C / 2 ^ 7) (W / 2 ^ 6) x y (omega arith) (omega arith))
    ∙ and_block 8 (bit_or (C / 2 ^ 7) (W / 2 ^ 6)) (lows (length bs)) (bit_or x y) 1 (or_lt 8 x y (omega arith) (omega arith)) (lit< tt)
    ∙ ap₂ (λ u v. u * 2 ^ 8 + v) (words bs (λ k. h (suc k))) z

-- the word that stands at `at`: its top bits shifted down, and the bits below them
word_lt : (t : List ℕ) (at x : ℕ) → x ≡ word_of (take 8 (drop at t)) → at + 8 ≤ length t → Bytes t → x < 2 ^ 64
unfolding full
word_lt t at x e l h =
    let bs = take 8 (drop at t) in
    let n : length bs ≡ 8 = simp (length-take, length-drop) (omega arith) in
    omega (arith, below bs (bytes_take 8 (drop at t) (λ k. rw get_or-drop (h (at + k)))), ap full n)

pub word_marks : (t : List ℕ) (at x : ℕ) → x ≡ word_of (take 8 (drop at t)) → at + 8 ≤ length t → Bytes t
    → bit_and (bit_or ((0xFFFF_FFFF_FFFF_FFFF - x) / 128) (x / 64)) low_bits ≡ marks_of (take 8 (drop at t))
unfolding lows full
word_marks t at x e l h =
    let bs = take 8 (drop at t) in
    let n : length bs ≡ 8 = simp (length-take, length-drop) (omega arith) in
    ap₂ (λ y m. bit_and (bit_or ((full m - y) / 2 ^ 7) (y / 2 ^ 6)) (lows m)) e (sym n) ∙ words bs (bytes_take 8 (drop at t) (λ k. rw get_or-drop (h (at + k))))

-- the same by the word and the word shifted up by one bit: what is shifted out at the top stands under no bit of the mask
clear : (z : ℕ) → bit_and z low_bits ≡ bit_and (z % 2 ^ 57) low_bits
clear z =
    let l = and_le_r z low_bits in
    let m : bit_and z low_bits % 2 ^ 57 ≡ bit_and z low_bits = omega arith in
    sym m ∙ and_mod z low_bits 57

shifted : (a x : ℕ) → bit_and (bit_or a ((x * 2) % 2 ^ 64 / 2 ^ 7)) low_bits ≡ bit_and (bit_or a (x / 2 ^ 6)) low_bits
shifted a x =
    let e : (x * 2) % 2 ^ 64 / 2 ^ 7 % 2 ^ 57 ≡ x / 2 ^ 6 % 2 ^ 57 = omega arith in
    clear (bit_or a ((x * 2) % 2 ^ 64 / 2 ^ 7))
    ∙ ap (λ z. bit_and z low_bits) (or_mod a ((x * 2) % 2 ^ 64 / 2 ^ 7) 57 ∙ ap (bit_or (a % 2 ^ 57)) e ∙ sym (or_mod a (x / 2 ^ 6) 57))
    ∙ sym (clear (bit_or a (x / 2 ^ 6)))

pub word_starts : (t : List ℕ) (at x : ℕ) → x ≡ word_of (take 8 (drop at t)) → at + 8 ≤ length t → Bytes t
    → Starts (0xFFFF_FFFF_FFFF_FFFF - bit_and x (0xFFFF_FFFF_FFFF_FFFF - (x * 2) % 2 ^ 64)) (take 8 (drop at t))
word_starts t at x e l h =
    let all : ℕ = 0xFFFF_FFFF_FFFF_FFFF in
    let d = (x * 2) % 2 ^ 64 in
    record {
      tops =
          ap (λ z. bit_and (z / 2 ^ 7) low_bits) (not_and 64 x d (word_lt t at x e l h) (omega arith))
          ∙ ap (λ z. bit_and z low_bits) (or_shr (all - x) d 7)
          ∙ shifted ((all - x) / 2 ^ 7) x
          ∙ word_marks t at x e l h;
    }

-- ---- in a sum

-- 256 is 255 and 1, so that all but the number of marks is a multiple of 255
over_255 : List ℕ → ℕ
over_255 [] = 0
over_255 (b ∷ bs) = marks_of bs + over_255 bs

sum_255 : (l : List ℕ) → marks_of l ≡ 255 * over_255 l + number_of_chars l
unfolding over_255
sum_255 [] = refl
sum_255 (b ∷ bs) = go (is_continuation b) (sum_255 bs)
  where
    go : (c : Bool) → marks_of bs ≡ 255 * over_255 bs + number_of_chars bs → marks_of bs * 256 + cond c 0 1 ≡ 255 * (marks_of bs + over_255 bs) + cond c (number_of_chars bs) (suc (number_of_chars bs))
    go true e = omega arith
    go false e = omega arith

word_num : (t : List ℕ) (at : ℕ) → number_of_chars (drop at t) ≡ number_of_chars (take 8 (drop at t)) + number_of_chars (drop (at + 8) t)
word_num t at = ap number_of_chars (sym (take-append-drop 8 (drop at t))) ∙ num_append (take 8 (drop at t)) (drop 8 (drop at t)) ∙ ap (λ l. number_of_chars (take 8 (drop at t)) + number_of_chars l) (drop-drop 8 at t)

module _ (t : List ℕ) where
  pub told_word : (at sum m : ℕ) → m ≡ marks_of (take 8 (drop at t)) → count_mod255 t (at + 8) (sum + m) ≡ count_mod255 t at sum
  unfolding count_mod255
  told_word at sum m e =
      let q = over_255 (take 8 (drop at t)) in
      let x : sum + m + number_of_chars (drop (at + 8) t) ≡ 255 * q + (sum + number_of_chars (drop at t)) = omega (arith, sum_255 (take 8 (drop at t)), word_num t at) in
      ap (λ z. z % 255) x ∙ omega arith

  pub told_two : (at sum m n : ℕ) → m ≡ marks_of (take 8 (drop at t)) → n ≡ marks_of (take 8 (drop (at + 8) t)) → count_mod255 t (at + 16) (sum + m + n) ≡ count_mod255 t at sum
  told_two at sum m n p q =
      let e : at + 8 + 8 ≡ at + 16 = omega arith in
      ap (λ i. count_mod255 t i (sum + m + n)) (sym e) ∙ told_word (at + 8) (sum + m) n q ∙ told_word at sum m p

  pub told_four : (at m n o p : ℕ) → m ≡ marks_of (take 8 (drop at t)) → n ≡ marks_of (take 8 (drop (at + 8) t)) → o ≡ marks_of (take 8 (drop (at + 16) t)) → p ≡ marks_of (take 8 (drop (at + 24) t))
      → count_mod255 t (at + 32) (m + n + o + p) ≡ count_mod255 t at 0
  told_four at m n o p e f g h =
      let x : at + 16 + 8 ≡ at + 24 = omega arith in
      let y : at + 16 + 16 ≡ at + 32 = omega arith in
      let z : 0 + m + n ≡ m + n = omega arith in
      (λ i. count_mod255 t (sym y i) (sym z i + o + p)) ∙ told_two (at + 16) (0 + m + n) o p g (h ∙ ap (λ i. marks_of (take 8 (drop i t))) (sym x)) ∙ told_two at 0 m n e f

  -- the end: nothing is left, or what the last marks tell of
  pub told_end : (at sum : ℕ) → length t - at ≡ 0 → sum % 255 ≡ count_mod255 t at sum
  unfolding count_mod255
  told_end at sum h = let l : length t ≤ at = omega arith in let e = ap number_of_chars (drop_of_length-le t l) in ap (λ n. n % 255) (omega arith)

  pub told_last : (at sum n m : ℕ) → at ≤ length t → n ≡ length t - at → m ≡ marks_of (drop (length t - n) t) → (sum + m) % 255 ≡ count_mod255 t at sum
  unfolding count_mod255
  told_last at sum n m h e p =
      let l = drop at t in
      let x : length t - n ≡ at = omega arith in
      let y : sum + m ≡ 255 * over_255 l + (sum + number_of_chars l) = omega (arith, ap (λ i. marks_of (drop i t)) x, sum_255 l) in
      ap (λ z. z % 255) y ∙ omega arith

  -- all of them
  pub told_all : (from r : ℕ) → length t - from < 64 → r % 255 ≡ count_mod255 t from 0 → (r % 255 ≡ number_of_chars (drop from t)) × (r % 255 ≤ length t - from)
  unfolding count_mod255
  told_all from r h e =
      let l = length-drop from t in
      let n = num_le (drop from t) in
      (omega arith, omega arith)

-- ---- counted

-- the ones of the marks
ones_marks : (l : List ℕ) → ones (marks_of l) ≡ number_of_chars l
unfolding ones
ones_marks [] = refl
ones_marks (b ∷ bs) = go (is_continuation b) (ones_marks bs)
  where
    go : (c : Bool) → ones (marks_of bs) ≡ number_of_chars bs → ones (marks_of bs * 2 ^ 8 + cond c 0 1) ≡ cond c (number_of_chars bs) (suc (number_of_chars bs))
    go true e = omega (arith, ones_cat 8 (marks_of bs) 0 (lit< tt))
    go false e = omega (arith, ones_cat 8 (marks_of bs) 1 (lit< tt))

pub eight_counted : (t : List ℕ) (at x : ℕ) → Starts x (take 8 (drop at t))
    → (ones (bit_and (x / 2 ^ 7) low_bits) ≡ number_of_chars (take 8 (drop at t))) × (ones (bit_and (x / 2 ^ 7) low_bits) ≤ 8)
eight_counted t at x s =
    let bs = take 8 (drop at t) in
    let e = ap ones s.tops ∙ ones_marks bs in
    (e, omega (arith, e, num_le bs, length-take 8 (drop at t)))

-- ---- in the last word

-- shifted down by k bytes
down : (k : ℕ) (l : List ℕ) → marks_of l / 2 ^ (8 * k) ≡ marks_of (drop k l)
down zero l = omega arith
down (suc k) [] = omega (arith, Pow.shr_le 0 (8 * suc k))
down (suc k) (b ∷ bs) =
    let e : 8 * suc k ≡ 8 + 8 * k = omega arith in
    ap (λ j. marks_of (b ∷ bs) / 2 ^ j) e ∙ sym (Pow.shr-shr (marks_of (b ∷ bs)) 8 (8 * k)) ∙ ap (λ x. x / 2 ^ (8 * k)) (go (is_continuation b)) ∙ down k bs
  where
    go : (c : Bool) → (marks_of bs * 256 + cond c 0 1) / 2 ^ 8 ≡ marks_of bs
    go true = omega arith
    go false = omega arith

pub last_marks : (t : List ℕ) (n m : ℕ) → 8 ≤ length t → n < 8 → m ≡ marks_of (take 8 (drop (length t - 8) t)) → m / 2 ^ (64 - 8 * n) ≡ marks_of (drop (length t - n) t)
last_marks t n m h l e =
    let k = 8 - n in
    let x : 64 - 8 * n ≡ 8 * k = omega arith in
    let y : length t - 8 + k ≡ length t - n = omega arith in
    let z : take 8 (drop (length t - 8) t) ≡ drop (length t - 8) t = take_all 8 (drop (length t - 8) t) (simp length-drop (omega arith)) in
    (λ i. e i / 2 ^ x i)
    ∙ ap (λ s. marks_of s / 2 ^ (8 * k)) z
    ∙ down k (drop (length t - 8) t)
    ∙ ap marks_of (drop-drop k (length t - 8) t)
    ∙ ap (λ j. marks_of (drop j t)) y

-- a mask of more bytes than a number has, and a mask shifted down
mask_more : (n m y : ℕ) → n ≤ m → y < 2 ^ (8 * n) → bit_and y (lows m) ≡ bit_and y (lows n)
unfolding lows
mask_more zero m y h l = let e : y ≡ 0 = omega arith in rw e
mask_more (suc n) zero y h l = absurd (omega arith)
mask_more (suc n) (suc m) y h l =
    let e : 8 * suc n ≡ 8 * n + 8 = omega arith in
    let r : y % 2 ^ 8 < 2 ^ 8 = omega arith in
    ap (λ z. bit_and z (lows m * 2 ^ 8 + 1)) (sym (Pow.split y 8))
    ∙ and_block 8 (y / 2 ^ 8) (lows m) (y % 2 ^ 8) 1 r (lit< tt)
    ∙ ap (λ z. z * 2 ^ 8 + bit_and (y % 2 ^ 8) 1) (mask_more n m (y / 2 ^ 8) (omega arith) (Pow.shr_lt {n = y} (8 * n) 8 (rw e at l)))
    ∙ sym (and_block 8 (y / 2 ^ 8) (lows n) (y % 2 ^ 8) 1 r (lit< tt))
    ∙ ap (λ z. bit_and z (lows n * 2 ^ 8 + 1)) (Pow.split y 8)

mask_down : (k n m : ℕ) → m ≡ k + n → lows m / 2 ^ (8 * k) ≡ lows n
unfolding lows
mask_down zero n m e = let f : m ≡ n = omega arith in omega (arith, ap lows f)
mask_down (suc k) n zero e = absurd (omega arith)
mask_down (suc k) n (suc m) e =
    let f : 8 * suc k ≡ 8 + 8 * k = omega arith in
    let x : (lows m * 2 ^ 8 + 1) / 2 ^ 8 ≡ lows m = omega arith in
    ap (λ j. lows (suc m) / 2 ^ j) f ∙ sym (Pow.shr-shr (lows (suc m)) 8 (8 * k)) ∙ ap (λ y. y / 2 ^ (8 * k)) x ∙ mask_down k n m (omega arith)

-- the last n bytes, fewer than eight, by the last eight: their top bits shifted down, and a mask of seven bytes
last_starts : (t : List ℕ) (n x : ℕ) → 8 ≤ length t → 0 < n → n < 8 → x < 2 ^ 64 → Starts x (take 8 (drop (length t - 8) t))
    → bit_and (x / 2 ^ (71 - 8 * n)) 0x0001_0101_0101_0101 ≡ marks_of (drop (length t - n) t)
unfolding lows
last_starts t n x h p l u s =
    let k = 8 - n in
    let z = x / 2 ^ 7 in
    let a : 71 - 8 * n ≡ 7 + 8 * k = omega arith in
    let b : 64 - 8 * n ≡ 8 * k = omega arith in
    let e : 8 * n + 8 * k ≡ 64 = omega arith in
    let v : z < 2 ^ 64 = omega (arith, Pow.shr_le x 7) in
    let f = Pow.shr_lt {n = z} (8 * n) (8 * k) (rw e v) in
    ap (λ j. bit_and (x / 2 ^ j) (lows 7)) a
    ∙ ap (λ y. bit_and y (lows 7)) (sym (Pow.shr-shr x 7 (8 * k)))
    ∙ mask_more n 7 (z / 2 ^ (8 * k)) (omega arith) f
    ∙ ap (bit_and (z / 2 ^ (8 * k))) (sym (mask_down k n 8 (omega arith)))
    ∙ sym (and_shr z low_bits (8 * k))
    ∙ ap (λ j. bit_and z low_bits / 2 ^ j) (sym b)
    ∙ last_marks t n (bit_and z low_bits) h l s.tops

pub last_counted : (t : List ℕ) (n x : ℕ) → 8 ≤ length t → 0 < n → n < 8 → x < 2 ^ 64 → Starts x (take 8 (drop (length t - 8) t))
    → (ones (bit_and (x / 2 ^ (71 - 8 * n)) 0x0001_0101_0101_0101) ≡ number_of_chars (drop (length t - n) t))
    × (ones (bit_and (x / 2 ^ (71 - 8 * n)) 0x0001_0101_0101_0101) ≤ n)
last_counted t n x h p l u s =
    let bs = drop (length t - n) t in
    let e = ap ones (last_starts t n x h p l u s) ∙ ones_marks bs in
    (e, omega (arith, e, num_le bs, length-drop (length t - n) t))
