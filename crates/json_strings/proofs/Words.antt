-- Eight bytes tested at once: what `plain_eight` finds in a word.
use Rattle.std.specs.Prelude.{◌≡◌, ℕ, zero, suc, ◌+◌, ◌-◌, ◌*◌, ◌<◌, ◌≤◌, Bool, true, false, not, ◌&&◌, eqb, ltb, List, [], ◌∷◌, map, length, get_or, take, drop}
use native.Mathlib.Omega.{arith}
use mathlib.Core.Path.{refl, sym, ap, ap₂, ◌∙◌}
use mathlib.Core.Bool.{beq, true≢false, and-false}
use lib.Bits.{bit_and, bit_or, bit_xor, xor_block, xor_lt}
use lib.ListN.{length-take, length-drop, length-map}
use lib.Seq.{get_or-drop}
use borrow.Author.Tests.{lt-ltb, ltb-true, le-ltb, eq-eqb, ne_eqb}
use Rattle.buffers.specs.Lists.{all_of}
use Rattle.buffers.proofs.Tests.{beq_true}
use Rattle.characters.specs.InnerAscii.{word_of, is_ascii}
use Rattle.characters.proofs.Bits.{mask_or}
use Rattle.characters.proofs.Bytes.{each, each_at}
use Rattle.characters.proofs.Chars.{split}
use Rattle.characters.proofs.Runs.{Bytes, word_tops, bytes_take}
use Rattle.json_lists.specs.Grammar.{is_raw}
use Rattle.json_strings.specs.InnerStrings.{is_plain}

-- the number k in each of n bytes
rep : ℕ → ℕ → ℕ
rep k zero = 0
rep k (suc n) = rep k n * 256 + k

-- every element is ASCII
abbrev Low : List ℕ → Type 0
Low bs = (k : ℕ) → get_or bs k 0 < 0x80

low_all : (bs : List ℕ) → all_of is_ascii bs ≡ true → Low bs
unfolding is_ascii
low_all [] e k = omega arith
low_all (b ∷ bs) e zero = ltb-true b 0x80 (split (is_ascii b) (all_of is_ascii bs) e).0
low_all (b ∷ bs) e (suc k) = low_all bs (split (is_ascii b) (all_of is_ascii bs) e).1 k

-- ---- byte by byte

-- numbers of at most k are taken from k
word_le : (k : ℕ) (f : ℕ → ℕ) (bs : List ℕ) → ((b : ℕ) → b < 0x80 → f b ≤ k) → Low bs → word_of (map f bs) ≤ rep k (length bs)
unfolding rep
word_le k f [] g h = omega arith
word_le k f (b ∷ bs) g h = omega (arith, word_le k f bs g (λ j. h (suc j)), g b (h 0))

sub_bytes : (k : ℕ) (f : ℕ → ℕ) (bs : List ℕ) → ((b : ℕ) → b < 0x80 → f b ≤ k) → Low bs → rep k (length bs) - word_of (map f bs) ≡ word_of (map (λ b. k - f b) bs)
unfolding rep
sub_bytes k f [] g h = refl
sub_bytes k f (b ∷ bs) g h = omega (arith, sub_bytes k f bs g (λ j. h (suc j)), word_le k f bs g (λ j. h (suc j)), g b (h 0))

xor_bytes : (k : ℕ) (bs : List ℕ) → k < 256 → Bytes bs → bit_xor (word_of bs) (rep k (length bs)) ≡ word_of (map (λ b. bit_xor b k) bs)
unfolding rep
xor_bytes k [] l h = refl
xor_bytes k (b ∷ bs) l h = xor_block 8 (word_of bs) (rep k (length bs)) b k (h 0) l ∙ ap (λ w. w * 256 + bit_xor b k) (xor_bytes k bs l (λ j. h (suc j)))

bytes_map : (f : ℕ → ℕ) (bs : List ℕ) → ((b : ℕ) → b < 0x80 → f b < 256) → Low bs → Bytes (map f bs)
bytes_map f [] g h k = omega arith
bytes_map f (b ∷ bs) g h zero = g b (h 0)
bytes_map f (b ∷ bs) g h (suc k) = bytes_map f bs g (λ j. h (suc j)) k

-- no top bit is set in a word whose bytes are these
no_tops : (x : ℕ) (bs : List ℕ) → length bs ≡ 8 → Bytes bs → x ≡ word_of bs → eqb (bit_and x 0x8080_8080_8080_8080) 0 ≡ all_of is_ascii bs
no_tops x bs n h e =
    let w = all_of_it bs n in
    (word_tops bs 0 x (e ∙ ap word_of (sym w)) (omega arith) h).none ∙ ap (all_of is_ascii) w
  where
    all_of_it : (bs : List ℕ) → length bs ≡ 8 → take 8 (drop 0 bs) ≡ bs
    all_of_it (a ∷ b ∷ c ∷ d ∷ e ∷ f ∷ g ∷ h ∷ []) n = refl
    all_of_it [] n = absurd (omega arith)
    all_of_it (a ∷ []) n = absurd (omega arith)
    all_of_it (a ∷ b ∷ []) n = absurd (omega arith)
    all_of_it (a ∷ b ∷ c ∷ []) n = absurd (omega arith)
    all_of_it (a ∷ b ∷ c ∷ d ∷ []) n = absurd (omega arith)
    all_of_it (a ∷ b ∷ c ∷ d ∷ e ∷ []) n = absurd (omega arith)
    all_of_it (a ∷ b ∷ c ∷ d ∷ e ∷ f ∷ []) n = absurd (omega arith)
    all_of_it (a ∷ b ∷ c ∷ d ∷ e ∷ f ∷ g ∷ []) n = absurd (omega arith)
    all_of_it (a ∷ b ∷ c ∷ d ∷ e ∷ f ∷ g ∷ h ∷ i ∷ bs) n = absurd (omega arith)

-- ---- the three tests

module _ (b : ℕ) (h : b < 0x80) where
  low_test : is_ascii (0x9F - b) ≡ not (ltb b 0x20)
  unfolding is_ascii
  low_test = beq_true _ _ (each_at (λ b. beq (is_ascii (0x9F - b)) (not (ltb b 0x20))) 0 128 b refl (omega arith) h)

  same_test : (k : ℕ) → each (λ b. beq (is_ascii (0x80 - bit_xor b k)) (not (eqb b k))) 0 128 ≡ true → is_ascii (0x80 - bit_xor b k) ≡ not (eqb b k)
  same_test k e = beq_true _ _ (each_at (λ b. beq (is_ascii (0x80 - bit_xor b k)) (not (eqb b k))) 0 128 b e (omega arith) h)

  plain_tests : ((is_ascii (0x9F - b) && is_ascii (0x80 - bit_xor b 0x22)) && is_ascii (0x80 - bit_xor b 0x5C)) ≡ is_plain b
  unfolding is_ascii is_plain is_raw
  plain_tests = rw (low_test, same_test 0x22 refl, same_test 0x5C refl, lt-ltb b 0x80 h) (mix (ltb b 0x20) (eqb b 0x22) (eqb b 0x5C))
    where
      mix : (l q s : Bool) → ((not l && not q) && not s) ≡ ((not q && (not s && not l)) && true)
      mix true true true = refl
      mix true true false = refl
      mix true false true = refl
      mix true false false = refl
      mix false true true = refl
      mix false true false = refl
      mix false false true = refl
      mix false false false = refl

and_mix : (a b c x y z : Bool) → (((a && x) && (b && y)) && (c && z)) ≡ (((a && b) && c) && ((x && y) && z))
and_mix false b c x y z = refl
and_mix true false c false y z = refl
and_mix true false c true y z = refl
and_mix true true false false y z = refl
and_mix true true false true false z = refl
and_mix true true false true true z = refl
and_mix true true true x y z = refl

all_plain : (bs : List ℕ) → Low bs
    → ((all_of is_ascii (map (λ b. 0x9F - b) bs) && all_of is_ascii (map (λ b. 0x80 - bit_xor b 0x22) bs)) && all_of is_ascii (map (λ b. 0x80 - bit_xor b 0x5C) bs))
    ≡ all_of is_plain bs
all_plain [] h = refl
all_plain (b ∷ bs) h =
    and_mix (is_ascii (0x9F - b)) (is_ascii (0x80 - bit_xor b 0x22)) (is_ascii (0x80 - bit_xor b 0x5C)) _ _ _
    ∙ ap₂ ◌&&◌ (plain_tests b (h 0)) (all_plain bs (λ j. h (suc j)))

-- ---- the word

less : (bs : List ℕ) → all_of is_ascii bs ≡ false → all_of is_plain bs ≡ false
unfolding is_ascii is_plain
less [] p = absurd (true≢false p)
less (b ∷ bs) p = go (ltb b 0x80) refl (λ q. less bs q)
  where
    go : (x : Bool) → ltb b 0x80 ≡ x → (all_of is_ascii bs ≡ false → all_of is_plain bs ≡ false) → ((is_raw b && x) && all_of is_plain bs) ≡ false
    go true q ih = ap (λ z. (is_raw b && true) && z) (ih (rw q at p)) ∙ and-false (is_raw b && true)
    go false q ih = ap (λ z. z && all_of is_plain bs) (and-false (is_raw b))

same_bytes : (bs : List ℕ) → map (λ b. b) bs ≡ bs
same_bytes [] = refl
same_bytes (b ∷ bs) = ap (λ l. b ∷ l) (same_bytes bs)

abbrev top_bits : ℕ
top_bits = 0x8080_8080_8080_8080

module _ (t : List ℕ) (at w : ℕ) (e : w ≡ word_of (take 8 (drop at t))) (l : at + 8 ≤ length t) (h : Bytes t) where
  abbrev bs : List ℕ
  bs = take 8 (drop at t)

  eight : length bs ≡ 8
  eight = simp (length-take, length-drop) (omega arith)

  are_bytes : Bytes bs
  are_bytes = bytes_take 8 (drop at t) (λ k. rw get_or-drop (h (at + k)))

  -- a byte that is not ASCII
  pub word_high : (bit_and w top_bits ≡ 0 → ⊥) → false ≡ all_of is_plain bs
  word_high p = sym (less bs (sym (no_tops w bs eight are_bytes e) ∙ ne_eqb (bit_and w top_bits) 0 p))

  module _ (p : bit_and w top_bits ≡ 0) where
    low : Low bs
    low = low_all bs (sym (no_tops w bs eight are_bytes e) ∙ eq-eqb (bit_and w top_bits) 0 p)

    -- a word of k in each byte, less these bytes
    module _ (k : ℕ) (f : ℕ → ℕ) (g : (b : ℕ) → b < 0x80 → f b ≤ k) (x : ℕ) (z : x ≡ word_of (map f bs)) where
      under : x ≤ rep k 8
      under = rw (z, ← ap (rep k) eight) (word_le k f bs g low)

      differs : rep k 8 - x ≡ word_of (map (λ b. k - f b) bs)
      differs = ap₂ ◌-◌ (ap (rep k) (sym eight)) z ∙ sub_bytes k f bs g low

    itself : w ≡ word_of (map (λ b. b) bs)
    itself = e ∙ ap word_of (sym (same_bytes bs))

    crossed : (k : ℕ) → k < 256 → bit_xor w (rep k 8) ≡ word_of (map (λ b. bit_xor b k) bs)
    crossed k u = ap₂ bit_xor e (ap (rep k) (sym eight)) ∙ xor_bytes k bs u are_bytes

    few : (k : ℕ) → k < 0x80 → (b : ℕ) → b < 0x80 → bit_xor b k ≤ 0x80
    few k u b v = omega (arith, xor_lt 7 b k v u)

    -- nothing is taken from less than it
    pub word_below : w ≤ 0x9F9F_9F9F_9F9F_9F9F
    unfolding rep
    word_below = under 0x9F (λ b. b) (λ b v. omega arith) w itself

    pub word_marks : bit_xor w 0x2222_2222_2222_2222 ≤ top_bits
    unfolding rep
    word_marks = under 0x80 (λ b. bit_xor b 0x22) (few 0x22 (omega arith)) _ (crossed 0x22 (omega arith))

    pub word_slashes : bit_xor w 0x5C5C_5C5C_5C5C_5C5C ≤ top_bits
    unfolding rep
    word_slashes = under 0x80 (λ b. bit_xor b 0x5C) (few 0x5C (omega arith)) _ (crossed 0x5C (omega arith))

    tested : (k : ℕ) (f : ℕ → ℕ) → ((b : ℕ) → b < 0x80 → f b ≤ k) → k < 256 → (x y : ℕ) → x ≡ word_of (map f bs) → y ≡ rep k 8 - x → eqb (bit_and y top_bits) 0 ≡ all_of is_ascii (map (λ b. k - f b) bs)
    tested k f g u x y z q =
        no_tops y (map (λ b. k - f b) bs) (length-map bs (λ b. k - f b) ∙ eight) (bytes_map (λ b. k - f b) bs (λ b v. omega arith) low) (q ∙ differs k f g x z)

    pub word_plain : {x y z : ℕ} → x ≡ 0x9F9F_9F9F_9F9F_9F9F - w → y ≡ top_bits - bit_xor w 0x2222_2222_2222_2222 → z ≡ top_bits - bit_xor w 0x5C5C_5C5C_5C5C_5C5C
        → eqb (bit_and (bit_or (bit_or x y) z) top_bits) 0 ≡ all_of is_plain bs
    unfolding rep
    word_plain {x} {y} {z} p q r =
        mask_or (bit_or x y) z top_bits ∙ ap (λ u. u && eqb (bit_and z top_bits) 0) (mask_or x y top_bits)
        ∙ ap₂ ◌&&◌
        (ap₂ ◌&&◌ (tested 0x9F (λ b. b) (λ b v. omega arith) (omega arith) w x itself p) (tested 0x80 (λ b. bit_xor b 0x22) (few 0x22 (omega arith)) (omega arith) _ y (crossed 0x22 (omega arith)) q))
        (tested 0x80 (λ b. bit_xor b 0x5C) (few 0x5C (omega arith)) (omega arith) _ z (crossed 0x5C (omega arith)) r)
        ∙ all_plain bs low

-- ---- one byte

module _ (b : ℕ) where
  pub byte_control : b < 0x20 → false ≡ is_plain b
  unfolding is_plain is_raw
  byte_control h = rw (lt-ltb b 0x20 h) (none (not (eqb b 0x22)) (not (eqb b 0x5C)) (ltb b 0x80))
    where
      none : (x y z : Bool) → false ≡ ((x && (y && false)) && z)
      none true true z = refl
      none true false z = refl
      none false y z = refl

  module _ (h : 0x20 ≤ b) where
    pub byte_high : 0x80 ≤ b → false ≡ is_plain b
    unfolding is_plain is_raw
    byte_high k = rw (le-ltb b 0x80 k) (sym (and-false (is_raw b)))

    module _ (k : b < 0x80) where
      pub byte_mark : b ≡ 0x22 → false ≡ is_plain b
      unfolding is_plain is_raw
      byte_mark e = rw (eq-eqb b 0x22 e) refl

      pub byte_other : (b ≡ 0x22 → ⊥) → not (eqb b 0x5C) ≡ is_plain b
      unfolding is_plain is_raw
      byte_other e = rw (ne_eqb b 0x22 e, le-ltb b 0x20 h, lt-ltb b 0x80 k) (last (not (eqb b 0x5C)))
        where
          last : (x : Bool) → x ≡ ((x && true) && true)
          last true = refl
          last false = refl
