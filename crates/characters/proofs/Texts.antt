-- Texts: a list of characters and its bytes are one and the same thing.
use Prim.Native.Nat.{ℕ, ◌≤◌, ◌<◌, zero-le, zero, suc}
use mathlib.Core.Path.{◌≡◌, refl, ap, ◌∙◌, sym, ap₂}
use mathlib.Core.Bool.{Bool, true, false, cond}
use mathlib.Core.List.{List, ◌∷◌, map, [], ◌++◌, append_assoc}
use lib.Dec.{T, ltb}
use lib.ListN.{length, length-map, length-append, take, drop, take-append-drop}
use native.Mathlib.Omega.{arith}
use borrow.Author.Tests.{ltb-false}
use mathlib.Core.Logic.{◌≢◌, ◌↔◌}
use Rattle.buffers.specs.Lists.{all_of, concat}
use Rattle.buffers.proofs.Tests.{holds, known, both}
use Rattle.characters.specs.Form.{well_char, is_well_formed, within, rows, lead_in, lead_from}
use Rattle.characters.specs.Text.{Char, keep, bytes, well_of, chars}
use Rattle.characters.specs.Chars.{chars_of, number_of_chars}
use Rattle.std.specs.declared.cmp.Ordering.TheVariants.{Less, Equal, Greater}
use Rattle.characters.specs.Order.{byte_order, order}
use Rattle.characters.proofs.Chars.{is_char, well_is_char, chars_concat, concat_chars, well_all, well_concat, length_chars}

keep_well : (c : List ℕ) (b : Bool) (f : T b → T (well_char c)) (h : T b) (cs : List Char) → keep c b f cs ≡ record { bytes = c; well = f h } ∷ cs
keep_well c true f h cs = refl
keep_well c false f h cs = absurd h

abbrev plain : List Char → List (List ℕ)
plain cs = map (λ c. c.bytes) cs

plain_well : (cs : List Char) → all_of well_char (plain cs) ≡ true
plain_well [] = refl
plain_well (c ∷ cs) = rw (holds (well_char c.bytes) c.well) (plain_well cs)

plain_chars : (cs : List Char) → all_of is_char (plain cs) ≡ true
plain_chars [] = refl
plain_chars (c ∷ cs) = rw (well_is_char c.bytes (holds (well_char c.bytes) c.well)) (plain_chars cs)

well_plain : (cs : List Char) → well_of (plain cs) ≡ cs
well_plain [] = refl
well_plain (c ∷ cs) = keep_well c.bytes (well_char c.bytes) (λ h. h) c.well (well_of (plain cs)) ∙ ap (λ r. c ∷ r) (well_plain cs)

plain_well_of : (cs : List (List ℕ)) → all_of well_char cs ≡ true → plain (well_of cs) ≡ cs
plain_well_of [] e = refl
plain_well_of (c ∷ cs) e =
    let (h, k) = (both (well_char c) (all_of well_char cs)).0 (known e) in
    ap plain (keep_well c (well_char c) (λ x. x) h (well_of cs)) ∙ ap (λ r. c ∷ r) (plain_well_of cs (holds (all_of well_char cs) k))

-- ---- there and back

pub chars_bytes : (cs : List Char) → chars (bytes cs) ≡ cs
unfolding chars bytes
chars_bytes cs = ap well_of (chars_concat (plain cs) (plain_chars cs)) ∙ well_plain cs

pub bytes_chars : (t : List ℕ) → T (is_well_formed t) → bytes (chars t) ≡ t
unfolding chars bytes
bytes_chars t h =
    let (l, w) = well_all t (holds (is_well_formed t) h) in
    ap concat (plain_well_of (chars_of t) w) ∙ ap (λ r. r ++ concat (chars_of t)) (sym l) ∙ concat_chars t

pub bytes_well : (cs : List Char) → T (is_well_formed (bytes cs))
unfolding bytes
bytes_well cs = known (well_concat (plain cs) (plain_well cs))

pub chars_length : (t : List ℕ) → T (is_well_formed t) → length (chars t) ≡ number_of_chars t
unfolding chars
chars_length t h =
    let (l, w) = well_all t (holds (is_well_formed t) h) in
    sym (length-map (well_of (chars_of t)) (λ c. c.bytes)) ∙ ap length (plain_well_of (chars_of t) w) ∙ length_chars t

pub bytes_inj : (s t : List Char) → bytes s ≡ bytes t → s ≡ t
bytes_inj s t e = sym (chars_bytes s) ∙ ap chars e ∙ chars_bytes t

pub bytes_append : (s t : List Char) → bytes (s ++ t) ≡ bytes s ++ bytes t
unfolding bytes
bytes_append [] t = refl
bytes_append (c ∷ s) t = rw (bytes_append s t, append_assoc)

-- a character has a byte at least
pub bytes_length : (cs : List Char) → length cs ≤ length (bytes cs)
unfolding bytes
bytes_length [] = zero-le
bytes_length (c ∷ cs) = simp length-append (omega (arith, some c.bytes c.well, bytes_length cs))
  where
    some : (l : List ℕ) → T (well_char l) → 0 < length l
    some [] h = absurd h
    some (b ∷ l) h = omega arith

-- ---- cutting and joining

pub chars_append : (s t : List ℕ) → T (is_well_formed s) → T (is_well_formed t) → chars (s ++ t) ≡ chars s ++ chars t
chars_append s t h k =
    ap chars (ap₂ ◌++◌ (sym (bytes_chars s h)) (sym (bytes_chars t k)) ∙ sym (bytes_append (chars s) (chars t))) ∙ chars_bytes (chars s ++ chars t)

plain_take : (k : ℕ) (cs : List Char) → plain (take k cs) ≡ take k (plain cs)
plain_take zero cs = refl
plain_take (suc k) [] = refl
plain_take (suc k) (c ∷ cs) = ap (λ l. c.bytes ∷ l) (plain_take k cs)

plain_drop : (k : ℕ) (cs : List Char) → plain (drop k cs) ≡ drop k (plain cs)
plain_drop zero cs = refl
plain_drop (suc k) [] = refl
plain_drop (suc k) (c ∷ cs) = plain_drop k cs

-- the first k characters of a text, and the others, as bytes
module _ (k : ℕ) (t : List ℕ) (h : T (is_well_formed t)) where
  pub bytes_take : bytes (take k (chars t)) ≡ concat (take k (chars_of t))
  unfolding bytes chars
  bytes_take = ap concat (plain_take k (chars t) ∙ ap (take k) (plain_well_of (chars_of t) (well_all t (holds (is_well_formed t) h)).1))

  pub bytes_split : bytes (take k (chars t)) ++ bytes (drop k (chars t)) ≡ t
  bytes_split = sym (bytes_append (take k (chars t)) (drop k (chars t))) ∙ ap bytes (take-append-drop k (chars t)) ∙ bytes_chars t h

-- ---- order

byte_equal : (s t : List ℕ) → byte_order s t ≡ Equal → s ≡ t
byte_equal [] [] e = refl
byte_equal [] (y ∷ t) e = cc
byte_equal (x ∷ s) [] e = cc
byte_equal (x ∷ s) (y ∷ t) e = go (ltb x y) (ltb y x) refl refl (byte_equal s t) e
  where
    go : (b c : Bool) → ltb x y ≡ b → ltb y x ≡ c → (byte_order s t ≡ Equal → s ≡ t) → cond b Less (cond c Greater (byte_order s t)) ≡ Equal → x ∷ s ≡ y ∷ t
    go true c p q r e = cc
    go false true p q r e = cc
    go false false p q r e = let h : x ≡ y = omega (arith, ltb-false) in ap₂ ◌∷◌ h (r e)

pub order_equal : (s t : List Char) → order s t ≡ Equal → s ≡ t
unfolding order
order_equal s t e = bytes_inj s t (byte_equal (bytes s) (bytes t) e)

pub order_chars : (s t : List ℕ) → T (is_well_formed s) → T (is_well_formed t) → order (chars s) (chars t) ≡ byte_order s t
unfolding order
order_chars s t h k = ap₂ byte_order (bytes_chars s h) (bytes_chars t k)

-- ---- two characters

pub letter_a : Char
unfolding lead_from rows lead_in within
letter_a = record { bytes = 0x61 ∷ []; well = tt }

pub letter_b : Char
unfolding lead_from rows lead_in within
letter_b = record { bytes = 0x62 ∷ []; well = tt }

pub a_not_b : letter_a ≢ letter_b
unfolding letter_a letter_b
a_not_b e = let f : ◌≡◌ {A = List ℕ} (0x61 ∷ []) (0x62 ∷ []) = ap (λ (c : Char). c.bytes) e in let z : ◌≡◌ {A = ℕ} 0x61 0x62 = cc f in omega arith

-- ---- RFC 3629's UTF8-octets = *( UTF8-char )

-- some characters have these bytes
pub record Octets (t : List ℕ) : Type 0 where
  pub characters : List Char
  pub theirs : bytes characters ≡ t

-- a text is well-formed exactly where it is the bytes of some characters
pub octets : (t : List ℕ) → T (is_well_formed t) ↔ Octets t
octets t = (λ h. record { characters = chars t; theirs = bytes_chars t h }, λ o. rw (← o.theirs) (bytes_well o.characters))
