-- ASCII bytes: eight seen at once, and a run of them passed.
use Rattle.std.specs.Prelude.{Some}
use Prim.Native.Nat.{ℕ, ◌<◌, zero, suc, ◌+◌, ◌*◌, ◌^◌, ◌≤◌, ◌%◌, ◌-◌}
use mathlib.Core.Path.{◌≡◌, refl, sym, ap, ◌∙◌, ap₂}
use mathlib.Core.Bool.{true, beq, ◌&&◌, Bool, false, not}
use borrow.Author.Tests.{lt-ltb, ne_eqb, not-false, leb-true, ltb-true}
use mathlib.Core.List.{List, [], ◌∷◌}
use lib.ListN.{get_or, length, take, drop, length-take, length-drop}
use native.Mathlib.Omega.{arith}
use lib.Dec.{eqb, lit<, lit≤, leb, ltb}
use lib.Bits.{bit_and, and_block, bit_or, or_shifted_r}
use lib.Seq.{get_or-drop, take-add, drop-drop}
use Rattle.std.specs.Int.{from_le_bytes}
use Rattle.std.specs.List.{prefix_len}
use Rattle.std.proofs.lemmas.List.Sums.{prefix_len-le-length}
use Rattle.std.proofs.Common.{w64}
use native.Mathlib.Nat.{zero-add}
use Rattle.buffers.specs.Lists.{all_of}
use Rattle.buffers.proofs.Fronts.{all_front}
use Rattle.buffers.proofs.Tests.{beq_true, holds, known}
use Rattle.characters.specs.InnerAscii.{is_ascii, word_of, Tops, ahead_of, Runs}
use Rattle.characters.specs.Form.{rows, lead_from, is_well_formed}
use Rattle.characters.specs.Chars.{is_continuation, number_of_chars}
use Rattle.characters.proofs.Bytes.{each_at}
use Rattle.characters.proofs.Walk.{next}
use Rattle.characters.proofs.Chars.{all_append, split}
use Rattle.characters.proofs.Bits.{mask_or}
use Rattle.characters.proofs.Leads.{lead_row, under}

pub ascii : (b : ℕ) → b < 0x80 → is_ascii b ≡ true
unfolding is_ascii
ascii b h = lt-ltb b 0x80 h

-- every element is a byte
abbrev pub Bytes : List ℕ → Type 0
Bytes l = (k : ℕ) → get_or l k 0 < 256

-- ---- a word

-- the top bit of each of n bytes
tops : ℕ → ℕ
tops zero = 0
tops (suc n) = tops n * 2 ^ 8 + 128

top : (b : ℕ) → b < 256 → eqb (bit_and b 128) 0 ≡ is_ascii b
unfolding is_ascii
top b h = beq_true _ _ (each_at (λ b. beq (eqb (bit_and b 128) 0) (is_ascii b)) 0 256 b refl (omega arith) h)

blocks : (x y : ℕ) → eqb (x * 2 ^ 8 + y) 0 ≡ (eqb y 0 && eqb x 0)
blocks zero zero = refl
blocks (suc x) zero = ne_eqb (suc x * 2 ^ 8 + 0) 0 (λ z. absurd (omega arith)) ∙ sym (ne_eqb (suc x) 0 (λ z. absurd (omega arith)))
blocks x (suc y) = ne_eqb (x * 2 ^ 8 + suc y) 0 (λ z. absurd (omega arith)) ∙ ap (λ b. b && eqb x 0) (sym (ne_eqb (suc y) 0 (λ z. absurd (omega arith))))

no_tops : (bs : List ℕ) → Bytes bs → eqb (bit_and (word_of bs) (tops (length bs))) 0 ≡ all_of is_ascii bs
unfolding tops
no_tops [] h = refl
no_tops (b ∷ bs) h =
    ap (λ x. eqb x 0) (and_block 8 (word_of bs) (tops (length bs)) b 128 (h 0) (lit< tt))
    ∙ blocks (bit_and (word_of bs) (tops (length bs))) (bit_and b 128)
    ∙ ap₂ ◌&&◌ (top b (h 0)) (no_tops bs (λ k. h (suc k)))

pub bytes_take : (n : ℕ) (l : List ℕ) → Bytes l → Bytes (take n l)
bytes_take zero l h k = lit< tt
bytes_take (suc n) [] h k = lit< tt
bytes_take (suc n) (x ∷ l) h zero = h 0
bytes_take (suc n) (x ∷ l) h (suc k) = bytes_take n l (λ j. h (suc j)) k

pub word_tops : (t : List ℕ) (at x : ℕ) → x ≡ word_of (take 8 (drop at t)) → at + 8 ≤ length t → Bytes t → Tops x (take 8 (drop at t))
unfolding tops
word_tops t at x e l h =
    let bs = take 8 (drop at t) in
    let n : length bs ≡ 8 = simp (length-take, length-drop) (omega arith) in
    record { none = ap₂ (λ y m. eqb (bit_and y (tops m)) 0) e (sym n) ∙ no_tops bs (bytes_take 8 (drop at t) (λ k. rw get_or-drop (h (at + k)))) }

eight_bytes : (t : List ℕ) (at : ℕ) → at + 8 ≤ length t
    → take 8 (drop at t) ≡ get_or t at 0 ∷ get_or t (at + 1) 0 ∷ get_or t (at + 2) 0 ∷ get_or t (at + 3) 0 ∷ get_or t (at + 4) 0 ∷ get_or t (at + 5) 0 ∷ get_or t (at + 6) 0 ∷ get_or t (at + 7) 0 ∷ []
eight_bytes t at h =
    let step : (j : ℕ) → j < 8 → drop (at + j) t ≡ get_or t (at + j) 0 ∷ drop (at + suc j) t = λ j l. let e : at + j + 1 ≡ at + suc j = omega arith in next t (at + j) (omega arith) ∙ ap (λ i. get_or t (at + j) 0 ∷ drop i t) e in
    rw (next t at (omega arith), step 1 (lit< tt), step 2 (lit< tt), step 3 (lit< tt), step 4 (lit< tt), step 5 (lit< tt), step 6 (lit< tt), step 7 (lit< tt))

-- the bytes as a number, the first lowest
pub word_read : (t : List ℕ) (at : ℕ) → at + 8 ≤ length t → from_le_bytes w64 (take 8 (drop at t)) ≡ word_of (take 8 (drop at t))
word_read t at h = rw (eight_bytes t at h) (omega arith)

-- ---- two parts next to each other

parts : (t : List ℕ) (at n m : ℕ) → all_of is_ascii (take (n + m) (drop at t)) ≡ (all_of is_ascii (take n (drop at t)) && all_of is_ascii (take m (drop (at + n) t)))
parts t at n m = ap (all_of is_ascii) (take-add n m (drop at t)) ∙ all_append is_ascii (take n (drop at t)) (take m (drop n (drop at t))) ∙ ap (λ l. all_of is_ascii (take n (drop at t)) && all_of is_ascii (take m l)) (drop-drop n at t)

pub tops_join : (t : List ℕ) (at n m x y : ℕ) → Tops x (take n (drop at t)) → Tops y (take m (drop (at + n) t)) → Tops (bit_or x y) (take (n + m) (drop at t))
tops_join t at n m x y p q = record { none = mask_or x y 0x8080_8080_8080_8080 ∙ ap₂ ◌&&◌ p.none q.none ∙ sym (parts t at n m) }

-- no word, and one word more
pub tops_none : (t : List ℕ) (at : ℕ) → Tops 0 (take 0 (drop at t))
tops_none t at = record { none = refl }

pub tops_more : (t : List ℕ) (at k x y : ℕ) → Tops x (take (8 * k) (drop at t)) → y ≡ word_of (take 8 (drop (at + 8 * k) t)) → at + 8 * (k + 1) ≤ length t → Bytes t
    → Tops (bit_or x y) (take (8 * (k + 1)) (drop at t))
tops_more t at k x y p q l h =
    let e : 8 * k + 8 ≡ 8 * (k + 1) = omega arith in
    rw e at (tops_join t at (8 * k) 8 x y p (word_tops t (at + 8 * k) y q (omega arith) h))

-- ---- a run

module _ (t : List ℕ) (at : ℕ) where
  pub runs_none : at ≤ length t → Runs t at at
  runs_none h = let z : at - at ≡ 0 = omega arith in record { above = omega arith; below = h; plain = rw z tt }

  pub runs_more : (i n : ℕ) {b : Bool} → Runs t at i → b ≡ all_of is_ascii (take n (drop i t)) → b ≡ true → i + n ≤ length t → Runs t at (i + n)
  runs_more i n r p e h =
      let a = r.above in
      let z : i + n - at ≡ i - at + n = omega arith in
      let w : at + (i - at) ≡ i = omega arith in
      record {
        above = omega arith;
        below = h;
        plain = known (ap (λ j. all_of is_ascii (take j (drop at t))) z ∙ parts t at (i - at) n ∙ ap₂ ◌&&◌ (holds (all_of is_ascii (take (i - at) (drop at t))) r.plain) (ap (λ j. all_of is_ascii (take n (drop j t))) w ∙ sym p ∙ e));
      }

  pub runs_join : (i j : ℕ) → Runs t at i → Runs t i j → Runs t at j
  runs_join i j r s =
      let a = s.above in
      let z : i + (j - i) ≡ j = omega arith in
      let b = s.below in
      rw z at (runs_more i (j - i) r refl (holds (all_of is_ascii (take (j - i) (drop i t))) s.plain) (omega arith))

  -- from `at` itself
  pub runs_some : (n : ℕ) {b : Bool} → b ≡ all_of is_ascii (take n (drop at t)) → b ≡ true → at + n ≤ length t → Runs t at (at + n)
  runs_some n p e h = runs_more at n (runs_none (omega arith)) p e h

  pub runs_ahead : {b : Bool} → b ≡ ahead_of t at → b ≡ true → at ≤ length t → Runs t at (at + 64)
  runs_ahead p e h =
      let (l, r) = split (leb 64 (length t - at)) (all_of is_ascii (take 64 (drop at t))) (sym p ∙ e) in
      let k = leb-true 64 (length t - at) l in
      runs_some 64 refl r (omega arith)

  -- the rest of the text, from inside its last eight bytes
  pub runs_last : (from : ℕ) {b : Bool} → at ≤ length t → from ≡ length t - 8 → 8 ≤ length t → from ≤ at → b ≡ all_of is_ascii (take 8 (drop from t)) → not b ≡ false → Runs t at (length t)
  runs_last from {b} h f l a p e =
      let k = at - from in
      let x : k + (8 - k) ≡ 8 = omega arith in
      let y : from + k ≡ at = omega arith in
      let z : 8 - k ≡ length t - at = omega arith in
      let q : (all_of is_ascii (take k (drop from t)) && all_of is_ascii (take (8 - k) (drop (from + k) t))) ≡ true =
      sym (parts t from k (8 - k)) ∙ ap (λ j. all_of is_ascii (take j (drop from t))) x ∙ sym p ∙ not-false b e in
      record { above = h; below = omega arith; plain = known ((λ i. all_of is_ascii (take (sym z i) (drop (sym y i) t))) ∙ (split (all_of is_ascii (take k (drop from t))) (all_of is_ascii (take (8 - k) (drop (from + k) t))) q).1) }

  pub runs_one : at < length t → get_or t at 0 < 0x80 → Runs t at (at + 1)
  runs_one h l = runs_some 1 refl (rw (next t at h, ascii (get_or t at 0) l)) (omega arith)

-- the bytes at the front, as far as they are ASCII
pub runs_front : (t : List ℕ) → Runs t 0 (prefix_len (λ b. ltb b 0x80) t)
unfolding is_ascii
runs_front t =
    let n = prefix_len is_ascii t in
    let z : n - 0 ≡ n = omega arith in
    record { above = omega arith; below = prefix_len-le-length is_ascii t; plain = rw z (all_front is_ascii t) }

module _ (t : List ℕ) (at : ℕ) where
  -- each byte of a run
  pub runs_byte : (to k : ℕ) → Runs t at to → at ≤ k → k < to → get_or t k 0 < 0x80
  unfolding is_ascii
  runs_byte to k r l h =
      let b = r.below in
      let n = k - at in
      let m = to - k - 1 in
      let x : to - at ≡ n + suc m = omega arith in
      let y : at + n ≡ k = omega arith in
      let q : (all_of is_ascii (take n (drop at t)) && all_of is_ascii (take (suc m) (drop (at + n) t))) ≡ true =
      sym (parts t at n (suc m)) ∙ ap (λ j. all_of is_ascii (take j (drop at t))) (sym x) ∙ holds (all_of is_ascii (take (to - at) (drop at t))) r.plain in
      let s : all_of is_ascii (take (suc m) (drop (at + n) t)) ≡ true = (split (all_of is_ascii (take n (drop at t))) (all_of is_ascii (take (suc m) (drop (at + n) t))) q).1 in
      let u : (is_ascii (get_or t k 0) && all_of is_ascii (take m (drop (k + 1) t))) ≡ true = sym (ap (λ z. all_of is_ascii (take (suc m) z)) (ap (λ j. drop j t) y ∙ next t k (omega arith))) ∙ s in
      ltb-true (get_or t k 0) 0x80 (split (is_ascii (get_or t k 0)) (all_of is_ascii (take m (drop (k + 1) t))) u).0

lead_ascii : (b : ℕ) → is_ascii b ≡ true → lead_from b ≡ Some (0, 0x80, 0xBF)
unfolding is_ascii rows
lead_ascii b e = let l = ltb-true b 0x80 e in sym (lead_row 0 0x00 0x7F {b = b} tt (omega arith) (omega arith))

ascii_well : (n : ℕ) (l : List ℕ) → all_of is_ascii (take n l) ≡ true → is_well_formed (drop n l) ≡ is_well_formed l
ascii_well zero l e = refl
ascii_well (suc n) [] e = refl
ascii_well (suc n) (b ∷ l) e =
    let (p, q) = split (is_ascii b) (all_of is_ascii (take n l)) e in
    ascii_well n l q ∙ rw (lead_ascii b p)

pub runs_well : (t : List ℕ) (at to : ℕ) → Runs t at to → is_well_formed (drop to t) ≡ is_well_formed (drop at t)
runs_well t at to r =
    let a = r.above in
    let z : at + (to - at) ≡ to = omega arith in
    ap (λ j. is_well_formed (drop j t)) (sym z) ∙ ap is_well_formed (sym (drop-drop (to - at) at t)) ∙ ascii_well (to - at) (drop at t) (holds (all_of is_ascii (take (to - at) (drop at t))) r.plain)

ascii_num : (n : ℕ) (l : List ℕ) → n ≤ length l → all_of is_ascii (take n l) ≡ true → n + number_of_chars (drop n l) ≡ number_of_chars l
unfolding is_ascii is_continuation
ascii_num zero l h e = zero-add (number_of_chars l)
ascii_num (suc n) [] h e = absurd (omega arith)
ascii_num (suc n) (b ∷ l) h e =
    let (p, q) = split (is_ascii b) (all_of is_ascii (take n l)) e in
    let m = ascii_num n l (omega arith) q in
    rw (under 0x80 0xBF b (ltb-true b 0x80 p)) (omega arith)

-- a few bytes of eight that are ASCII
ascii_take : (n : ℕ) (l : List ℕ) → n ≤ length l → all_of is_ascii (take n l) ≡ true → n ≡ number_of_chars (take n l)
unfolding is_ascii is_continuation
ascii_take zero l h e = refl
ascii_take (suc n) [] h e = absurd (omega arith)
ascii_take (suc n) (b ∷ l) h e =
    let (p, q) = split (is_ascii b) (all_of is_ascii (take n l)) e in
    let m = ascii_take n l (omega arith) q in
    rw (under 0x80 0xBF b (ltb-true b 0x80 p)) (omega arith)

pub eight_num : (t : List ℕ) (at to : ℕ) {b : Bool} → at ≤ to → to ≤ length t → to - at ≤ 8 → b ≡ all_of is_ascii (take 8 (drop at t)) → b ≡ true → to - at ≡ number_of_chars (take (to - at) (drop at t))
eight_num t at to l h m p e =
    let n = to - at in
    let x : n + (8 - n) ≡ 8 = omega arith in
    let q : (all_of is_ascii (take n (drop at t)) && all_of is_ascii (take (8 - n) (drop (at + n) t))) ≡ true =
    sym (parts t at n (8 - n)) ∙ ap (λ j. all_of is_ascii (take j (drop at t))) x ∙ sym p ∙ e in
    ascii_take n (drop at t) (simp length-drop (omega arith)) (split (all_of is_ascii (take n (drop at t))) (all_of is_ascii (take (8 - n) (drop (at + n) t))) q).0

-- each byte of a run is a character
pub runs_num : (t : List ℕ) (at to : ℕ) → Runs t at to → to + number_of_chars (drop to t) ≡ at + number_of_chars (drop at t)
runs_num t at to r =
    let a = r.above in
    let b = r.below in
    let z : at + (to - at) ≡ to = omega arith in
    omega (arith, ap (λ j. number_of_chars (drop j t)) z, ap number_of_chars (drop-drop (to - at) at t), ascii_num (to - at) (drop at t) (omega (arith, length-drop at t)) (holds (all_of is_ascii (take (to - at) (drop at t))) r.plain))
