-- What a written value is read as.
use Prim.Native.Nat.{ℕ, zero, suc, ◌+◌, ◌*◌, ◌/◌, ◌%◌, ◌<◌, ◌≤◌}
use native.Mathlib.Omega.{arith}
use mathlib.Core.Path.{◌≡◌, refl, ap, ◌∙◌}
use mathlib.Core.Bool.{Bool, true, false, cond, not}
use mathlib.Core.List.{List, [], ◌∷◌, ◌++◌, map, append_assoc, append-nil}
use mathlib.Core.Option.{none}
use lib.Dec.{T, ltb, eqb}
use borrow.Author.Tests.{eqb-true, ltb-true, ltb-false}
use Rattle.characters.specs.Text.{Char, bytes}
use Rattle.buffers.specs.Lists.{all_of}
use Rattle.buffers.proofs.Tests.{both, holds, known}
use Rattle.characters.proofs.Leads as leads
use Rattle.characters.proofs.Bytes.{each_at}
use Rattle.characters.proofs.Codes.{encode_1}
use Rattle.characters.proofs.Texts.{chars_bytes}
use Rattle.edits.specs.Op.{Op, retain, insert, delete}
use Rattle.edits.specs.Built.{full}
use Rattle.edits.specs.Sequence.{Seq}
use Rattle.edits.proofs.Links.{positive}
use Rattle.json_lists.specs.Form.{Sign, plus, minus, Item, number, string, is_white_space, is_digit, is_digit1_9, value_of_digit, is_hex, is_high, is_low, in_unicode, next, ends, Place, at_start, after_bracket, after_comma, after_minus, in_number, in_string, after_value, at_end, reached, items}
use Rattle.json_lists.specs.Grammar.{is_raw, Hex4, hex4, unicode}
use Rattle.json_lists.specs.Written.{decimal_in, decimal, escaped, escaped_all, value, others, written}
use Rattle.json_lists.specs.Calls.{op_of}
use Rattle.json_lists.proofs.Reading.{inside, tight, Reads, reads_byte, reads_then}
use Rattle.json_lists.proofs.Steps.{bracket_digit, comma_digit, minus_digit, next_digit, next_raw}
use Rattle.json_lists.proofs.Derived.{character_goes}
use Rattle.json_lists.proofs.Escapes.{only_raw, control_escaped}

-- ---- numbers

-- a digit that begins a number here
pub record Begins (p : Place) (s : Sign) : Type 0 where
  pub digit : (d : ℕ) → 1 ≤ d → d < 10 → Reads p ((0x30 + d) ∷ []) (in_number s d) []

module _ (d : ℕ) (h : d < 10) where
  digit_value : value_of_digit (0x30 + d) ≡ d
  unfolding value_of_digit
  digit_value = omega arith

  digit_no_space : T (not (is_white_space (0x30 + d)))
  unfolding is_white_space
  digit_no_space = known (each_at (λ d. not (is_white_space (0x30 + d))) 0 10 d refl (omega arith) (omega arith))

  first_digit : 1 ≤ d → T (is_digit1_9 (0x30 + d))
  unfolding is_digit1_9
  first_digit l = known (leads.inside _ _ (0x30 + d) (omega arith) (omega arith))

  digit_is : is_digit (0x30 + d) ≡ true
  unfolding is_digit
  digit_is = leads.inside 0x30 0x39 (0x30 + d) (omega arith) (omega arith)

  -- it stands outside of strings
  reads_number : {p : Place} {s : Sign} {n : ℕ} → next p (0x30 + d) ≡ in_number s n → ends p (0x30 + d) ≡ [] → inside p ≡ false → Reads p ((0x30 + d) ∷ []) (in_number s n) []
  reads_number n m e = reads_byte {b = 0x30 + d} n m (rw e digit_no_space)

bracket_begins : Begins after_bracket plus
unfolding ends
bracket_begins = record { digit = λ d l h. reads_number d h (bracket_digit (0x30 + d) (first_digit d h l) ∙ ap (in_number plus) (digit_value d h)) refl refl }

comma_begins : Begins after_comma plus
unfolding ends
comma_begins = record { digit = λ d l h. reads_number d h (comma_digit (0x30 + d) (first_digit d h l) ∙ ap (in_number plus) (digit_value d h)) refl refl }

minus_begins : Begins after_minus minus
unfolding ends
minus_begins = record { digit = λ d l h. reads_number d h (minus_digit (0x30 + d) (first_digit d h l) ∙ ap (in_number minus) (digit_value d h)) refl refl }

-- one digit more
reads_digit : (s : Sign) (n d : ℕ) → d < 10 → Reads (in_number s n) ((0x30 + d) ∷ []) (in_number s (n * 10 + d)) []
reads_digit s n d h =
    let (e, m) = next_digit s n (0x30 + d) (digit_is d h) in
    reads_number d h (e ∙ ap (λ k. in_number s (n * 10 + k)) (digit_value d h)) m refl

pub reads_decimal : (f n : ℕ) (p : Place) (s : Sign) → Begins p s → 1 ≤ n → n < f → Reads p (decimal_in f n) (in_number s n) []
unfolding decimal_in
reads_decimal zero n p s b l h = absurd (omega arith)
reads_decimal (suc f) n p s b l h = go (ltb n 10) refl (λ k. reads_decimal f (n / 10) p s b (omega arith) (omega arith))
  where
    go : (t : Bool) → ltb n 10 ≡ t → (10 ≤ n → Reads p (decimal_in f (n / 10)) (in_number s (n / 10)) [])
        → Reads p (cond t ((0x30 + n) ∷ []) (decimal_in f (n / 10) ++ ((0x30 + n % 10) ∷ []))) (in_number s n) []
    go true e ih = b.digit n l (ltb-true n 10 e)
    go false e ih =
        let z : n / 10 * 10 + n % 10 ≡ n = omega arith in
        rw z at (reads_then (ih (ltb-false n 10 e)) (reads_digit s (n / 10) (n % 10) (omega arith)))

-- ---- strings

-- what is written for a byte is read as that byte
abbrev Escaped : List ℕ → ℕ → Type 0
Escaped t b = Reads (in_string t) (escaped b) (in_string (t ++ (b ∷ []))) []

reads_raw : (t : List ℕ) (b : ℕ) → T (is_raw b) → Escaped t b
reads_raw t b r = let (n, m) = next_raw t b r in rw ((only_raw b).1 r) (reads_byte {b = b} n m tt)

tight_digits : (t : List ℕ) {u : List ℕ} {v : ℕ} → Hex4 u v → T (tight (in_unicode none 3 0 t) u)
unfolding tight
tight_digits t (hex4 {a} {b} {c} x y z w) = rw (holds (is_hex a) x, holds (is_hex b) y, holds (is_hex c) z) tt

-- a code below 20
reads_control : (t : List ℕ) (b : ℕ) → b < 0x20 → Escaped t b
unfolding tight is_high is_low
reads_control t b h =
    let k = control_escaped b h in
    let g = character_goes t (unicode k.value (leads.under 0xD800 0xDBFF b (omega arith)) (leads.under 0xDC00 0xDFFF b (omega arith))) in
    rw k.is (record { to = g.to ∙ ap (λ c. in_string (t ++ c)) (encode_1 b (omega arith)); has = g.has; no_space = tight_digits t k.value })

reads_escaped : (t : List ℕ) (b : ℕ) → Escaped t b
unfolding escaped reached items tight
reads_escaped t b = go (eqb b 0x22) (eqb b 0x5C) (ltb b 0x20) refl refl refl
  where
    go : (x y z : Bool) → eqb b 0x22 ≡ x → eqb b 0x5C ≡ y → ltb b 0x20 ≡ z → Escaped t b
    go true y z e f g = rw (eqb-true b 0x22 e) (record { to = refl; has = refl; no_space = tt })
    go false true z e f g = rw (eqb-true b 0x5C f) (record { to = refl; has = refl; no_space = tt })
    go false false true e f g = reads_control t b (ltb-true b 0x20 g)
    go false false false e f g = reads_raw t b (unfold is_raw in rw (e, f, g) tt)

pub reads_text : (t u : List ℕ) → Reads (in_string t) (escaped_all u) (in_string (t ++ u)) []
unfolding reached items tight
reads_text t [] = record { to = rw append-nil; has = refl; no_space = tt }
reads_text t (b ∷ u) = rw append_assoc at (reads_then (reads_escaped t b) (reads_text (t ++ (b ∷ [])) u))

-- ---- values

unfoldable pub item_of : Op Char → Item
unfolding bytes
item_of (retain n) = number plus n
item_of (insert s) = string (bytes s)
item_of (delete n) = number minus n

pub op_item : (o : Op Char) → op_of (item_of o) ≡ o
unfolding op_of item_of
op_item (retain n) = refl
op_item (insert s) = ap insert (chars_bytes s)
op_item (delete n) = refl

-- a value may begin here
pub record Opens (p : Place) : Type 0 where
  pub number : Begins p plus
  pub minus : Reads p (0x2D ∷ []) after_minus []
  pub quote : Reads p (0x22 ∷ []) (in_string []) []

pub bracket_opens : Opens after_bracket
unfolding reached items tight
bracket_opens = record { number = bracket_begins; minus = record { to = refl; has = refl; no_space = tt }; quote = record { to = refl; has = refl; no_space = tt } }

pub comma_opens : Opens after_comma
unfolding reached items tight
comma_opens = record { number = comma_begins; minus = record { to = refl; has = refl; no_space = tt }; quote = record { to = refl; has = refl; no_space = tt } }

-- b ends a value
pub record Ends (b : ℕ) (q : Place) : Type 0 where
  pub of_number : (s : Sign) (n : ℕ) → Reads (in_number s n) (b ∷ []) q (number s n ∷ [])
  pub of_string : Reads after_value (b ∷ []) q []

pub comma_ends : Ends 0x2C after_comma
unfolding reached items tight
comma_ends = record { of_number = λ s n. record { to = refl; has = refl; no_space = tt }; of_string = record { to = refl; has = refl; no_space = tt } }

pub bracket_ends : Ends 0x5D at_end
unfolding reached items tight
bracket_ends = record { of_number = λ s n. record { to = refl; has = refl; no_space = tt }; of_string = record { to = refl; has = refl; no_space = tt } }

quote_ends : (t : List ℕ) → Reads (in_string t) (0x22 ∷ []) after_value (string t ∷ [])
unfolding reached items tight
quote_ends t = record { to = refl; has = refl; no_space = tt }

pub reads_value : (p : Place) (o : Op Char) (b : ℕ) (q : Place) → Opens p → T (full o) → Ends b q → Reads p (value o ++ (b ∷ [])) q (item_of o ∷ [])
unfolding value item_of decimal
reads_value p (retain n) b q h f e = reads_then (reads_decimal (suc n) n p plus h.number ((positive n).0 f) (omega arith)) (e.of_number plus n)
reads_value p (insert s) b q h f e =
    rw (append_assoc (escaped_all (bytes s)) (0x22 ∷ []) (b ∷ [])) (reads_then h.quote (reads_then (reads_text [] (bytes s)) (reads_then (quote_ends (bytes s)) e.of_string)))
reads_value p (delete n) b q h f e =
    reads_then h.minus (reads_then (reads_decimal (suc n) n after_minus minus minus_begins ((positive n).0 f) (omega arith)) (e.of_number minus n))

-- ---- the whole list

reads_all : (p : Place) (o : Op Char) (s : Seq) → Opens p → T (all_of full (o ∷ s)) → Reads p (value o ++ others s) at_end (map item_of (o ∷ s))
unfolding others
reads_all p o [] h f = reads_value p o 0x5D at_end h ((both (full o) true).0 f).0 bracket_ends
reads_all p o (k ∷ s) h f =
    let (a, b) = (both (full o) (all_of full (k ∷ s))).0 f in
    rw (append_assoc (value o) (0x2C ∷ []) (value k ++ others s)) at
    (reads_then (reads_value p o 0x2C after_comma h a comma_ends) (reads_all after_comma k s comma_opens b))

pub reads_written : (s : Seq) → T (all_of full s) → Reads at_start (written s) at_end (map item_of s)
unfolding written reached items tight
reads_written [] f = record { to = refl; has = refl; no_space = tt }
reads_written (o ∷ s) f = reads_then opening (reads_all after_bracket o s bracket_opens f)
  where
    opening : Reads at_start (0x5B ∷ []) after_bracket []
    opening = record { to = refl; has = refl; no_space = tt }
