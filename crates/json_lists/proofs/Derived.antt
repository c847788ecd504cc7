-- What the grammar derives is read.
use Prim.Native.Nat.{ℕ}
use mathlib.Core.Path.{◌≡◌, refl, ap, ap₂, ◌∙◌}
use mathlib.Core.Bool.{Bool, true, false, ◌||◌}
use mathlib.Core.List.{List, [], ◌∷◌, ◌++◌, append_assoc, append-nil}
use mathlib.Core.Option.{Option, none, some}
use lib.Dec.{T, eqb}
use borrow.Author.Tests.{eqb-true}
use Rattle.buffers.proofs.Tests.{holds, both}
use Rattle.characters.specs.Scalar.{encode_scalar}
use Rattle.json_lists.specs.Form.{Sign, plus, minus, Item, number, string, is_white_space, is_digit, is_digit1_9, value_of_digit, is_hex, is_high, is_low, paired, Place, at_start, after_bracket, after_comma, after_minus, in_number, in_string, in_unicode, after_high, after_value, at_end, follows, named, next, ends, reached, items}
use Rattle.json_lists.specs.Grammar as grammar
use Rattle.json_lists.proofs.Reading.{reached_append, items_append}
use Rattle.json_lists.proofs.Steps.{between, space_stays, bracket_digit, comma_digit, minus_digit, next_digit, next_raw, four_digits}

-- the bytes lead from one place to another, and these items end in them
pub record Goes (p : Place) (bs : List ℕ) (q : Place) (l : List Item) : Type 0 where
  pub to : reached p bs ≡ q
  pub has : items p bs ≡ l

pub goes_then : {p q r : Place} {xs ys : List ℕ} {l m : List Item} → Goes p xs q l → Goes q ys r m → Goes p (xs ++ ys) r (l ++ m)
goes_then {p} {q} {r} {xs} {ys} f g =
    record {
      to = reached_append p xs ys ∙ ap (λ x. reached x ys) f.to ∙ g.to;
      has = items_append p xs ys ∙ ap₂ ◌++◌ f.has (ap (λ x. items x ys) f.to ∙ g.has);
    }

stand : (p : Place) → Goes p [] p []
unfolding reached items
stand p = record { to = refl; has = refl }

byte_goes : {p q : Place} {b : ℕ} {l : List Item} → next p b ≡ q → ends p b ≡ l → Goes p (b ∷ []) q l
unfolding reached items
byte_goes {p} {b = b} n m = record { to = n; has = append-nil (ends p b) ∙ m }

ws_goes : (p : Place) {t : List ℕ} → T (between p) → grammar.Ws t → Goes p t p []
ws_goes p h grammar.Ws.none = stand p
ws_goes p h (grammar.Ws.more w b s) = let (n, m) = space_stays p b h (holds (is_white_space b) s) in goes_then (ws_goes p h w) (byte_goes {b = b} n m)

-- ---- numbers

-- a value may begin here
record Opens (p : Place) : Type 0 where
  digit : (b : ℕ) → T (is_digit1_9 b) → Goes p (b ∷ []) (in_number plus (value_of_digit b)) []
  minus_sign : Goes p (0x2D ∷ []) after_minus []
  quote : Goes p (0x22 ∷ []) (in_string []) []

bracket_opens : Opens after_bracket
unfolding next ends
bracket_opens = record { digit = λ b h. byte_goes {b = b} (bracket_digit b h) refl; minus_sign = byte_goes refl refl; quote = byte_goes refl refl }

comma_opens : Opens after_comma
unfolding next ends
comma_opens = record { digit = λ b h. byte_goes {b = b} (comma_digit b h) refl; minus_sign = byte_goes refl refl; quote = byte_goes refl refl }

int_goes : (p : Place) (s : Sign) {t : List ℕ} {n : ℕ} → ((b : ℕ) → T (is_digit1_9 b) → Goes p (b ∷ []) (in_number s (value_of_digit b)) []) → grammar.Int t n → Goes p t (in_number s n) []
int_goes p s f (grammar.Int.first {b = b} h) = f b h
int_goes p s f (grammar.Int.more {n = n} i b h) = let (x, y) = next_digit s n b (holds (is_digit b) h) in goes_then (int_goes p s f i) (byte_goes {b = b} x y)

number_goes : (p : Place) {t : List ℕ} {s : Sign} {n : ℕ} → Opens p → grammar.Number t s n → Goes p t (in_number s n) []
unfolding ends
number_goes p o (grammar.Number.positive i) = int_goes p plus o.digit i
number_goes p o (grammar.Number.negative i) = goes_then o.minus_sign (int_goes after_minus minus (λ b h. byte_goes {b = b} (minus_digit b h) refl) i)

-- ---- strings

hex_goes : (high : Option ℕ) (u : List ℕ) {t : List ℕ} {v : ℕ} → grammar.Hex4 t v → Goes (in_unicode high 3 0 u) t (named high v u) []
unfolding reached items
hex_goes high u (grammar.Hex4.hex4 {a} {b} {c} {d} x y z w) =
    let s = four_digits high u a b c d [] ((both (is_hex a) _).1 (x, (both (is_hex b) _).1 (y, (both (is_hex c) _).1 (z, (both (is_hex d) true).1 (w, tt))))) in
    record { to = s.to; has = s.has }

opening : (u : List ℕ) → Goes (in_string u) (0x5C ∷ 0x75 ∷ []) (in_unicode none 3 0 u) []
unfolding reached items
opening u = record { to = refl; has = refl }

reopening : (v : ℕ) (u : List ℕ) → Goes (after_high v u) (0x5C ∷ 0x75 ∷ []) (in_unicode (some v) 3 0 u) []
unfolding reached items
reopening v u = record { to = refl; has = refl }

named_one : (v : ℕ) (u : List ℕ) → is_high v ≡ false → is_low v ≡ false → named none v u ≡ in_string (u ++ encode_scalar v)
named_one v u x y = rw (x, y)

named_high : (v : ℕ) (u : List ℕ) → T (is_high v) → named none v u ≡ after_high v u
named_high v u x = rw (holds (is_high v) x)

named_pair : (v w : ℕ) (u : List ℕ) → T (is_low w) → named (some v) w u ≡ in_string (u ++ encode_scalar (paired v w))
named_pair v w u x = rw (holds (is_low w) x)

short_goes : (u : List ℕ) {b c : ℕ} → grammar.Short b c → Goes (in_string u) (0x5C ∷ b ∷ []) (in_string (u ++ (c ∷ []))) []
unfolding reached items
short_goes u grammar.Short.quotation_mark = record { to = refl; has = refl }
short_goes u grammar.Short.reverse_solidus = record { to = refl; has = refl }
short_goes u grammar.Short.solidus = record { to = refl; has = refl }
short_goes u grammar.Short.backspace = record { to = refl; has = refl }
short_goes u grammar.Short.form_feed = record { to = refl; has = refl }
short_goes u grammar.Short.line_feed = record { to = refl; has = refl }
short_goes u grammar.Short.carriage_return = record { to = refl; has = refl }
short_goes u grammar.Short.tab = record { to = refl; has = refl }

pub character_goes : (u : List ℕ) {t c : List ℕ} → grammar.Character t c → Goes (in_string u) t (in_string (u ++ c)) []
character_goes u (grammar.Character.unescaped {b = b} h) = let (x, y) = next_raw u b h in byte_goes {b = b} x y
character_goes u (grammar.Character.short s) = short_goes u s
character_goes u (grammar.Character.unicode {v = v} h x y) = goes_then (opening u) (rw (named_one v u x y) at (hex_goes none u h))
character_goes u (grammar.Character.surrogates {v = v} {w = w} h x k y) =
    goes_then (opening u) (goes_then (rw (named_high v u x) at (hex_goes none u h)) (goes_then (reopening v u) (rw (named_pair v w u y) at (hex_goes (some v) u k))))

characters_goes : (u : List ℕ) {t s : List ℕ} → grammar.Characters t s → Goes (in_string u) t (in_string (u ++ s)) []
characters_goes u grammar.Characters.none = rw append-nil (stand (in_string u))
characters_goes u (grammar.Characters.more {s = s} {c = c} k h) = rw append_assoc at (goes_then (characters_goes u k) (character_goes (u ++ s) h))

-- ---- values

-- these bytes are values up to the last one's end, which for a number is before the next byte
record Closes (p : Place) (t : List ℕ) (l : List Item) : Type 0 where
  place : Place
  now : List Item
  due : List Item
  goes : Goes p t place now
  all : now ++ due ≡ l
  next_is : (b : ℕ) → is_digit b ≡ false → (next place b ≡ follows b) × (ends place b ≡ due)

value_closes : (p : Place) {t : List ℕ} {x : Item} → Opens p → grammar.Value t x → Closes p t (x ∷ [])
unfolding next ends
value_closes p o (grammar.Value.of_number {s = s} {n = n} h) =
    record { place = in_number s n; now = []; due = number s n ∷ []; goes = number_goes p o h; all = refl; next_is = λ b e. (rw e, rw e) }
value_closes p o (grammar.Value.of_string {s = s} h) =
    record {
      place = after_value;
      now = string s ∷ [];
      due = [];
      goes = goes_then o.quote (goes_then (characters_goes [] h) (byte_goes {b = 0x22} refl refl));
      all = refl;
      next_is = λ b e. (refl, refl);
    }

closes_after : {p q : Place} {t u : List ℕ} {l m : List Item} → Goes p t q l → Closes q u m → Closes p (t ++ u) (l ++ m)
closes_after {l = l} g c =
    record { place = c.place; now = l ++ c.now; due = c.due; goes = goes_then g c.goes; all = append_assoc l c.now c.due ∙ ap (λ r. l ++ r) c.all; next_is = c.next_is }

-- one byte behind values
closes_byte : {p : Place} {t : List ℕ} {l : List Item} (b : ℕ) → is_digit b ≡ false → Closes p t l → Goes p (t ++ (b ∷ [])) (follows b) l
closes_byte b e c = let (x, y) = c.next_is b e in rw c.all at (goes_then c.goes (byte_goes {b = b} x y))

follows_space : (b : ℕ) → T (is_white_space b) → follows b ≡ after_value
follows_space b h = rw (holds (is_white_space b) h)

space_no_digit : (b : ℕ) → T (is_white_space b) → is_digit b ≡ false
unfolding is_white_space is_digit
space_no_digit b h = go (eqb b 0x20) (eqb b 0x09) (eqb b 0x0A) (eqb b 0x0D) refl refl refl refl h
  where
    go : (x y z w : Bool) → eqb b 0x20 ≡ x → eqb b 0x09 ≡ y → eqb b 0x0A ≡ z → eqb b 0x0D ≡ w → T (x || y || z || w) → is_digit b ≡ false
    go true y z w e f g h t = rw (eqb-true b 0x20 e)
    go false true z w e f g h t = rw (eqb-true b 0x09 f)
    go false false true w e f g h t = rw (eqb-true b 0x0A g)
    go false false false true e f g h t = rw (eqb-true b 0x0D h)
    go false false false false e f g h t = absurd t

closes_ws : {p : Place} {t w : List ℕ} {l : List Item} → Closes p t l → grammar.Ws w → Closes p (t ++ w) l
unfolding next ends
closes_ws c grammar.Ws.none = rw append-nil c
closes_ws {p} {t} {l = l} c (grammar.Ws.more {t = v} w b s) =
    rw append_assoc at
    (let d : Closes p ((t ++ v) ++ (b ∷ [])) l = record {
      place = after_value;
      now = l;
      due = [];
      goes = rw (follows_space b s) at (closes_byte b (space_no_digit b s) (closes_ws c w));
      all = append-nil l;
      next_is = λ b e. (refl, refl);
    } in d)

-- a structural character behind values
closes_structural : {p q : Place} {t c : List ℕ} {l : List Item} (b : ℕ) → is_digit b ≡ false → follows b ≡ q → T (between q) → Closes p t l → grammar.Structural b c → Goes p (t ++ c) q l
closes_structural {p} {q} {t} {l = l} b e f h c (grammar.Structural.structural {w = w} {v = v} x y) =
    let g : Goes p ((t ++ w) ++ (b ∷ [])) q l = rw f at (closes_byte b e (closes_ws c x)) in
    rw (append-nil l, append_assoc (t ++ w) (b ∷ []) v, append_assoc t w (b ∷ v)) at (goes_then g (ws_goes q h y))

values_close : {t : List ℕ} {l : List Item} → grammar.Values t l → Closes after_bracket t l
unfolding is_digit is_white_space
values_close (grammar.Values.one v) = value_closes after_bracket bracket_opens v
values_close (grammar.Values.more {t = t} {c = c} {u = u} k s v) =
    rw (append_assoc t c u) at (closes_after (closes_structural 0x2C refl refl tt (values_close k) s) (value_closes after_comma comma_opens v))

-- a structural character between white space
structural_goes : {p q : Place} {c : List ℕ} (b : ℕ) → T (between p) → T (between q) → next p b ≡ q → ends p b ≡ [] → grammar.Structural b c → Goes p c q []
structural_goes {p} {q} b h k n m (grammar.Structural.structural x y) = goes_then (ws_goes p h x) (goes_then (byte_goes {b = b} n m) (ws_goes q k y))

array_goes : {t : List ℕ} {l : List Item} → grammar.Array t l → Goes at_start t at_end l
unfolding next ends is_digit
array_goes (grammar.Array.empty a z) = goes_then (structural_goes 0x5B tt tt refl refl a) (structural_goes 0x5D tt tt refl refl z)
array_goes (grammar.Array.full a v z) = goes_then (structural_goes 0x5B tt tt refl refl a) (closes_structural 0x5D refl refl tt (values_close v) z)

pub text_goes : {t : List ℕ} {l : List Item} → grammar.JsonText t l → Goes at_start t at_end l
text_goes (grammar.JsonText.json_text {l = l} w a v) =
    rw append-nil at (goes_then (ws_goes at_start tt w) (goes_then (array_goes a) (ws_goes at_end tt v)))
