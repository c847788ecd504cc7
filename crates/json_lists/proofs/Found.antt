-- What is read is derived from the grammar.
use Prim.Native.Nat.{ℕ, ◌+◌, ◌*◌}
use native.Mathlib.Omega.{arith}
use mathlib.Core.Path.{◌≡◌, refl, sym}
use mathlib.Core.Bool.{Bool, true, false, cond, ◌||◌}
use mathlib.Core.List.{List, [], ◌∷◌, ◌++◌, append_assoc, append-nil}
use mathlib.Core.Option.{Option, none, some}
use lib.Dec.{T, ltb, eqb}
use borrow.Author.Tests.{eqb-true}
use Rattle.buffers.proofs.Tests.{known}
use Rattle.json_lists.specs.Form.{Sign, Item, number, string, is_white_space, is_digit, is_digit1_9, value_of_digit, is_hex, value_of_hex, is_high, is_low, Place, at_start, after_bracket, after_comma, after_minus, in_number, in_string, after_escape, in_unicode, after_high, after_high_escape, after_value, at_end, outside, begins, follows, escapes, counted, is_end, next, ends, reached, items}
use Rattle.json_lists.specs.Grammar.{is_raw, Ws, Structural, Int, Number, Short, Hex4, Character, Characters, Value, Values, Array, JsonText}
use Rattle.json_lists.proofs.Strings.{cond_elim}

-- ---- what was read up to a place

-- a value may come; values were read
data Before : List ℕ → List Item → Type 0 where
  first : {a : List ℕ} → Structural 0x5B a → Before a []
  later : {a t c : List ℕ} {l : List Item} → Structural 0x5B a → Values t l → Structural 0x2C c → Before (a ++ (t ++ c)) l

data Behind : List ℕ → List Item → Type 0 where
  behind : {a t w : List ℕ} {l : List Item} → Structural 0x5B a → Values t l → Ws w → Behind (a ++ (t ++ w)) l

-- a high surrogate before an escape, and the digits of an escape
data High : Option ℕ → List ℕ → Type 0 where
  no_high : High none []
  high : {t : List ℕ} {v : ℕ} → Hex4 t v → T (is_high v) → High (some v) (0x5C ∷ 0x75 ∷ t)

data Digits : ℕ → ℕ → List ℕ → Type 0 where
  no_digit : Digits 3 0 []
  one_digit : (a : ℕ) → T (is_hex a) → Digits 2 (value_of_hex a) (a ∷ [])
  two_digits : (a b : ℕ) → T (is_hex a) → T (is_hex b) → Digits 1 (value_of_hex a * 16 + value_of_hex b) (a ∷ b ∷ [])
  three_digits : (a b c : ℕ) → T (is_hex a) → T (is_hex b) → T (is_hex c) → Digits 0 ((value_of_hex a * 16 + value_of_hex b) * 16 + value_of_hex c) (a ∷ b ∷ c ∷ [])

data At : Place → List ℕ → List Item → Type 0 where
  start : {t : List ℕ} → Ws t → At at_start t []
  bracket : {t : List ℕ} → Structural 0x5B t → At after_bracket t []
  comma : {t : List ℕ} {l : List Item} → Before t l → At after_comma t l
  dash : {t : List ℕ} {l : List Item} → Before t l → At after_minus (t ++ (0x2D ∷ [])) l
  num : {t u : List ℕ} {s : Sign} {n : ℕ} {l : List Item} → Before t l → Number u s n → At (in_number s n) (t ++ u) l
  str : {t u s : List ℕ} {l : List Item} → Before t l → Characters u s → At (in_string s) (t ++ (0x22 ∷ u)) l
  esc : {t u s : List ℕ} {l : List Item} → Before t l → Characters u s → At (after_escape s) (t ++ (0x22 ∷ (u ++ (0x5C ∷ [])))) l
  uni : {t u s h d : List ℕ} {o : Option ℕ} {due v : ℕ} {l : List Item} → Before t l → Characters u s → High o h → Digits due v d
      → At (in_unicode o due v s) (t ++ (0x22 ∷ (u ++ (h ++ (0x5C ∷ 0x75 ∷ d))))) l
  hi : {t u s d : List ℕ} {v : ℕ} {l : List Item} → Before t l → Characters u s → Hex4 d v → T (is_high v) → At (after_high v s) (t ++ (0x22 ∷ (u ++ (0x5C ∷ 0x75 ∷ d)))) l
  hi_esc : {t u s d : List ℕ} {v : ℕ} {l : List Item} → Before t l → Characters u s → Hex4 d v → T (is_high v) → At (after_high_escape v s) (t ++ (0x22 ∷ (u ++ (0x5C ∷ 0x75 ∷ (d ++ (0x5C ∷ [])))))) l
  val : {t : List ℕ} {l : List Item} → Behind t l → At after_value t l
  fin : {t w : List ℕ} {l : List Item} → Array t l → Ws w → At at_end (t ++ w) l
  out : {t : List ℕ} {l : List Item} → At outside t l

conv : {p : Place} {t u : List ℕ} {l : List Item} → t ≡ u → At p t l → At p u l
conv e a = rw e at a

-- ---- parts

structural_space : {b : ℕ} {c : List ℕ} → Structural b c → (x : ℕ) → T (is_white_space x) → Structural b (c ++ (x ∷ []))
structural_space {b} (Structural.structural {w = w} {v = v} f g) x s =
    let z : Structural b (w ++ (b ∷ (v ++ (x ∷ [])))) = Structural.structural f (Ws.more g x s) in
    rw (← append_assoc w (b ∷ v) (x ∷ [])) at z

before_space : {t : List ℕ} {l : List Item} → Before t l → (x : ℕ) → T (is_white_space x) → Before (t ++ (x ∷ [])) l
before_space (first a) x s = first (structural_space a x s)
before_space (later {a = a} {t = t} {c = c} f v g) x s =
    let e : a ++ (t ++ (c ++ (x ∷ []))) ≡ (a ++ (t ++ c)) ++ (x ∷ []) = simp append_assoc in rw e at (later f v (structural_space g x s))

behind_space : {t : List ℕ} {l : List Item} → Behind t l → (x : ℕ) → T (is_white_space x) → Behind (t ++ (x ∷ [])) l
behind_space (behind {a = a} {t = t} {w = w} f v g) x s =
    let e : a ++ (t ++ (w ++ (x ∷ []))) ≡ (a ++ (t ++ w)) ++ (x ∷ []) = simp append_assoc in rw e at (behind f v (Ws.more g x s))

behind_comma : {t : List ℕ} {l : List Item} → Behind t l → Before (t ++ (0x2C ∷ [])) l
behind_comma (behind {a = a} {t = t} {w = w} f v g) =
    let e : a ++ (t ++ (w ++ (0x2C ∷ []))) ≡ (a ++ (t ++ w)) ++ (0x2C ∷ []) = simp append_assoc in rw e at (later f v (Structural.structural g Ws.none))

behind_close : {t : List ℕ} {l : List Item} → Behind t l → Array (t ++ (0x5D ∷ [])) l
behind_close (behind {a = a} {t = t} {w = w} f v g) =
    let e : a ++ (t ++ (w ++ (0x5D ∷ []))) ≡ (a ++ (t ++ w)) ++ (0x5D ∷ []) = simp append_assoc in rw e at (Array.full f v (Structural.structural g Ws.none))

before_value : {t u : List ℕ} {l : List Item} {x : Item} → Before t l → Value u x → Behind (t ++ u) (l ++ (x ∷ []))
before_value {u = u} (first {a = a} f) v = let e : a ++ (u ++ []) ≡ a ++ u = simp append-nil in rw e at (behind f (Values.one v) Ws.none)
before_value {u = u} (later {a = a} {t = t} {c = c} f w g) v =
    let e : a ++ ((t ++ (c ++ u)) ++ []) ≡ (a ++ (t ++ c)) ++ u = simp (append_assoc, append-nil) in rw e at (behind f (Values.more w g v) Ws.none)

number_more : {t : List ℕ} {s : Sign} {n : ℕ} → Number t s n → (b : ℕ) → T (is_digit b) → Number (t ++ (b ∷ [])) s (n * 10 + value_of_digit b)
number_more (Number.positive i) b h = Number.positive (Int.more i b h)
number_more (Number.negative i) b h = Number.negative (Int.more i b h)

-- ---- one byte on

module _ (b : ℕ) where
  abbrev New : List ℕ → List Item → Place → Type 0
  New t l p = At p (t ++ (b ∷ [])) l

  from_behind : {t : List ℕ} {l : List Item} → Behind t l → New t l (follows b)
  from_behind {t} {l} h =
      cond_elim (New t l) (is_white_space b) (λ e. val (behind_space h b (known e)))
      (λ _. cond_elim (New t l) (eqb b 0x2C) (λ e. comma (rw (sym (eqb-true b 0x2C e)) at (behind_comma h)))
      (λ _. cond_elim (New t l) (eqb b 0x5D) (λ e. conv (append-nil (t ++ (b ∷ []))) (fin (rw (sym (eqb-true b 0x5D e)) at (behind_close h)) Ws.none)) (λ _. out)))

  from_before : {t : List ℕ} {l : List Item} → Before t l → New t l (begins b)
  from_before {t} {l} h =
      cond_elim (New t l) (eqb b 0x22) (λ e. rw (sym (eqb-true b 0x22 e)) at (str h Characters.none))
      (λ _. cond_elim (New t l) (eqb b 0x2D) (λ e. rw (sym (eqb-true b 0x2D e)) at (dash h))
      (λ _. cond_elim (New t l) (is_digit1_9 b) (λ e. num h (Number.positive (Int.first (known e)))) (λ _. out)))

  -- in a string, behind what was read of it
  raw : eqb b 0x22 ≡ false → eqb b 0x5C ≡ false → ltb b 0x20 ≡ false → T (is_raw b)
  unfolding is_raw
  raw x y z = known {b = is_raw b} (rw (x, y, z))

  from_string : {t u s : List ℕ} {l : List Item} → Before t l → Characters u s → At (next (in_string s) b) ((t ++ (0x22 ∷ u)) ++ (b ∷ [])) (l ++ ends (in_string s) b)
  unfolding next ends
  from_string {t} {u} {s} {l} h c = go (eqb b 0x22) (eqb b 0x5C) (ltb b 0x20) refl refl refl
    where
      go : (x y z : Bool) → eqb b 0x22 ≡ x → eqb b 0x5C ≡ y → ltb b 0x20 ≡ z
          → At (cond x after_value (cond y (after_escape s) (cond z outside (in_string (s ++ (b ∷ [])))))) ((t ++ (0x22 ∷ u)) ++ (b ∷ [])) (l ++ cond x (string s ∷ []) [])
      go true y z e f g = rw (eqb-true b 0x22 e) (conv (simp append_assoc) (val (before_value h (Value.of_string c))))
      go false true z e f g = rw (eqb-true b 0x5C f, append-nil l) (conv (simp append_assoc) (esc h c))
      go false false true e f g = out
      go false false false e f g = rw (append-nil l) (conv (simp append_assoc) (str h (Characters.more c (Character.unescaped (raw e f g)))))

  short_read : {t u s : List ℕ} {c : ℕ} {l : List Item} → Before t l → Characters u s → Short b c → New (t ++ (0x22 ∷ (u ++ (0x5C ∷ [])))) l (in_string (s ++ (c ∷ [])))
  short_read h k c = conv (simp append_assoc) (str h (Characters.more k (Character.short c)))

  from_escape : {t u s : List ℕ} {l : List Item} → Before t l → Characters u s → New (t ++ (0x22 ∷ (u ++ (0x5C ∷ [])))) l (escapes s b)
  from_escape {t} {u} {s} {l} h k =
      let P : Place → Type 0 = New (t ++ (0x22 ∷ (u ++ (0x5C ∷ [])))) l in
      cond_elim P (eqb b 0x22 || eqb b 0x5C || eqb b 0x2F) (λ e. self (eqb b 0x22) (eqb b 0x5C) (eqb b 0x2F) refl refl refl e)
      (λ _. cond_elim P (eqb b 0x62) (λ e. short_read h k (rw (eqb-true b 0x62 e) Short.backspace))
      (λ _. cond_elim P (eqb b 0x66) (λ e. short_read h k (rw (eqb-true b 0x66 e) Short.form_feed))
      (λ _. cond_elim P (eqb b 0x6E) (λ e. short_read h k (rw (eqb-true b 0x6E e) Short.line_feed))
      (λ _. cond_elim P (eqb b 0x72) (λ e. short_read h k (rw (eqb-true b 0x72 e) Short.carriage_return))
      (λ _. cond_elim P (eqb b 0x74) (λ e. short_read h k (rw (eqb-true b 0x74 e) Short.tab))
      (λ _. cond_elim P (eqb b 0x75) (λ e. rw (eqb-true b 0x75 e) (conv (simp append_assoc) (uni h k no_high no_digit))) (λ _. out)))))))
    where
      self : (x y z : Bool) → eqb b 0x22 ≡ x → eqb b 0x5C ≡ y → eqb b 0x2F ≡ z → (x || y || z) ≡ true → New (t ++ (0x22 ∷ (u ++ (0x5C ∷ [])))) l (in_string (s ++ (b ∷ [])))
      self true y z e f g w = short_read h k (rw (eqb-true b 0x22 e) Short.quotation_mark)
      self false true z e f g w = short_read h k (rw (eqb-true b 0x5C f) Short.reverse_solidus)
      self false false true e f g w = short_read h k (rw (eqb-true b 0x2F g) Short.solidus)
      self false false false e f g w = absurd (let z : ◌≡◌ {A = ℕ} 0 1 = cc w in omega arith)

  from_digits : {t u s h d : List ℕ} {o : Option ℕ} {due v : ℕ} {l : List Item} → Before t l → Characters u s → High o h → Digits due v d → T (is_hex b)
      → New (t ++ (0x22 ∷ (u ++ (h ++ (0x5C ∷ 0x75 ∷ d))))) l (counted o due (v * 16 + value_of_hex b) s)
  from_digits f k g no_digit e = let z : 0 * 16 + value_of_hex b ≡ value_of_hex b = omega arith in rw z (conv (simp append_assoc) (uni f k g (one_digit b e)))
  from_digits f k g (one_digit a x) e = conv (simp append_assoc) (uni f k g (two_digits a b x e))
  from_digits f k g (two_digits a c x y) e = conv (simp append_assoc) (uni f k g (three_digits a c b x y e))
  from_digits {t} {u} {s} {l = l} f k no_high (three_digits a c d x y z) e =
      let v = ((value_of_hex a * 16 + value_of_hex c) * 16 + value_of_hex d) * 16 + value_of_hex b in
      let H : Hex4 (a ∷ c ∷ d ∷ b ∷ []) v = Hex4.hex4 x y z e in
      let P : Place → Type 0 = New (t ++ (0x22 ∷ (u ++ (0x5C ∷ 0x75 ∷ a ∷ c ∷ d ∷ [])))) l in
      cond_elim P (is_high v) (λ p. conv (simp append_assoc) (hi f k H (known p)))
      (λ p. cond_elim P (is_low v) (λ _. out) (λ q. conv (simp append_assoc) (str f (Characters.more k (Character.unicode H p q)))))
  from_digits {t} {u} {s} {l = l} f k (high {t = h} {v = w} g i) (three_digits a c d x y z) e =
      let v = ((value_of_hex a * 16 + value_of_hex c) * 16 + value_of_hex d) * 16 + value_of_hex b in
      let H : Hex4 (a ∷ c ∷ d ∷ b ∷ []) v = Hex4.hex4 x y z e in
      let P : Place → Type 0 = New (t ++ (0x22 ∷ (u ++ (0x5C ∷ 0x75 ∷ (h ++ (0x5C ∷ 0x75 ∷ a ∷ c ∷ d ∷ [])))))) l in
      cond_elim P (is_low v) (λ p. conv (simp append_assoc) (str f (Characters.more k (Character.surrogates g i H (known p))))) (λ _. out)

  from_number : {t u : List ℕ} {s : Sign} {n : ℕ} {l : List Item} → Before t l → Number u s n → At (next (in_number s n) b) ((t ++ u) ++ (b ∷ [])) (l ++ ends (in_number s n) b)
  unfolding next ends
  from_number {t} {u} {s} {n} {l} f k = go (is_digit b) refl
    where
      go : (x : Bool) → is_digit b ≡ x → At (cond x (in_number s (n * 10 + value_of_digit b)) (follows b)) ((t ++ u) ++ (b ∷ [])) (l ++ cond x [] (number s n ∷ []))
      go true e = rw (append-nil l) (conv (simp append_assoc) (num f (number_more k b (known e))))
      go false e = from_behind (before_value f (Value.of_number k))

  step : {p : Place} {t : List ℕ} {l : List Item} → At p t l → At (next p b) (t ++ (b ∷ [])) (l ++ ends p b)
  unfolding next ends
  step (start {t = t} w) =
      cond_elim (New t []) (is_white_space b) (λ e. start (Ws.more w b (known e)))
      (λ _. cond_elim (New t []) (eqb b 0x5B) (λ e. bracket (rw (eqb-true b 0x5B e) (Structural.structural w Ws.none))) (λ _. out))
  step (bracket {t = t} a) =
      cond_elim (New t []) (is_white_space b) (λ e. bracket (structural_space a b (known e)))
      (λ _. cond_elim (New t []) (eqb b 0x5D)
      (λ e. conv (append-nil (t ++ (b ∷ []))) (fin {t = t ++ (b ∷ [])} (rw (eqb-true b 0x5D e) (Array.empty a (Structural.structural Ws.none Ws.none))) Ws.none))
      (λ _. from_before (first a)))
  step (comma {t = t} {l = l} f) = rw (append-nil l) (cond_elim (New t l) (is_white_space b) (λ e. comma (before_space f b (known e))) (λ _. from_before f))
  step (dash {t = t} {l = l} f) =
      rw (append-nil l) (cond_elim (New (t ++ (0x2D ∷ [])) l) (is_digit1_9 b) (λ e. conv (simp append_assoc) (num f (Number.negative (Int.first (known e))))) (λ _. out))
  step (num f k) = from_number f k
  step (str f k) = from_string f k
  step (esc {l = l} f k) = rw (append-nil l) (from_escape f k)
  step (uni {t = t} {u = u} {h = h} {d = d} {l = l} f k g e) =
      rw (append-nil l) (cond_elim (New (t ++ (0x22 ∷ (u ++ (h ++ (0x5C ∷ 0x75 ∷ d))))) l) (is_hex b) (λ x. from_digits f k g e (known x)) (λ _. out))
  step (hi {t = t} {u = u} {d = d} {l = l} f k g i) =
      rw (append-nil l) (cond_elim (New (t ++ (0x22 ∷ (u ++ (0x5C ∷ 0x75 ∷ d)))) l) (eqb b 0x5C) (λ e. rw (eqb-true b 0x5C e) (conv (simp append_assoc) (hi_esc f k g i))) (λ _. out))
  step (hi_esc {t = t} {u = u} {d = d} {l = l} f k g i) =
      rw (append-nil l) (cond_elim (New (t ++ (0x22 ∷ (u ++ (0x5C ∷ 0x75 ∷ (d ++ (0x5C ∷ [])))))) l) (eqb b 0x75)
      (λ e. rw (eqb-true b 0x75 e) (conv (simp append_assoc) (uni f k (high g i) no_digit))) (λ _. out))
  step (val {l = l} f) = rw (append-nil l) (from_behind f)
  step (fin {t = t} {w = w} {l = l} a f) = rw (append-nil l) (cond_elim (New (t ++ w) l) (is_white_space b) (λ e. conv (simp append_assoc) (fin a (Ws.more f b (known e)))) (λ _. out))
  step out = out

-- ---- the whole

steps : (bs : List ℕ) {p : Place} {t : List ℕ} {l : List Item} → At p t l → At (reached p bs) (t ++ bs) (l ++ items p bs)
unfolding reached items
steps [] {p} {t} {l} a = rw (append-nil t, append-nil l) a
steps (b ∷ bs) {p} {t} {l} a = rw (append_assoc t (b ∷ []) bs, append_assoc l (ends p b) (items (next p b) bs)) at (steps bs (step b a))

at_the_end : {p : Place} {t : List ℕ} {l : List Item} → At p t l → T (is_end p) → JsonText t l
at_the_end (fin a w) h = JsonText.json_text Ws.none a w
at_the_end (start w) h = absurd h
at_the_end (bracket a) h = absurd h
at_the_end (comma f) h = absurd h
at_the_end (dash f) h = absurd h
at_the_end (num f k) h = absurd h
at_the_end (str f k) h = absurd h
at_the_end (esc f k) h = absurd h
at_the_end (uni f k g e) h = absurd h
at_the_end (hi f k g i) h = absurd h
at_the_end (hi_esc f k g i) h = absurd h
at_the_end (val f) h = absurd h
at_the_end out h = absurd h

pub text_found : (list : List ℕ) → T (is_end (reached at_start list)) → JsonText list (items at_start list)
text_found list h = at_the_end (steps list (start Ws.none)) h
