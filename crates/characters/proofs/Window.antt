-- Bytes gone through by what may stand behind the three before each.
use Rattle.std.specs.Prelude.{Some}
use mathlib.Core.Bool.{false, false≢true, Bool, true, ◌||◌, not, beq, ◌&&◌}
use Prim.Native.Nat.{ℕ, ◌≤◌, ◌<◌, ◌+◌, suc, ◌-◌, zero}
use mathlib.Core.Path.{◌≡◌, sym, ◌∙◌, ap, refl}
use lib.Dec.{eqb, leb}
use borrow.Author.Tests.{eqb-true, le-leb, lt-leb, not-false}
use native.Mathlib.Omega.{arith}
use mathlib.Core.Logic.{⊎_elim, ◌⊎◌, inl, inr}
use mathlib.Core.List.{List, ◌∷◌}
use lib.ListN.{get_or, length, drop, drop_of_length-le}
use lib.Bits.{bit_or}
use Rattle.buffers.proofs.Tests.{beq_true, or_split, known}
use Rattle.characters.specs.InnerBlock.{OnlyIf, bit_of, invalid_byte_of, outside_of, due_of, asking, misplaced_of, pending_of, asked, before, Window, Tells, StandWell, Goes}
use Rattle.characters.specs.Chars.{is_continuation, number_of_chars}
use Rattle.characters.specs.Form.{lead_from, rows, well_formed_from, is_well_formed}
use Rattle.characters.specs.InnerPassed.{Passed}
use Rattle.characters.specs.InnerAscii.{Runs}
use Rattle.characters.proofs.Leads.{le_or_lt, within_bounds, under, inside, lead_row}
use Rattle.characters.proofs.Bytes.{opened, tells_not}
use Rattle.characters.proofs.Walk.{num_cont, num_start, next}
use Rattle.characters.proofs.Runs.{runs_byte}
use Rattle.characters.proofs.Passed.{passed_run}
use Rattle.characters.proofs.Bits.{or_none}

pub only_not : {P : Type 0} → OnlyIf false P
only_not = record { so = λ e. absurd (false≢true e) }

pub only_none : {P : Type 0} (r n : ℕ) → r ≡ n → (n ≡ 0 → P) → OnlyIf (eqb r 0) P
only_none r n e f = record { so = λ y. f (sym e ∙ eqb-true r 0 y) }

-- ---- bits

bit_le : (b : Bool) → bit_of b ≤ 1
bit_le true = omega arith
bit_le false = omega arith

module _ (m p : ℕ) where
  bit_yes : m ≤ p → bit_of (leb m p) ≡ 1
  bit_yes h = ap bit_of (le-leb m p h)

  bit_no : p < m → bit_of (leb m p) ≡ 0
  bit_no h = ap bit_of (lt-leb m p h)

  bit_under : bit_of (leb m p) ≡ 0 → p < m
  bit_under e = ⊎_elim (λ h. absurd (omega (arith, bit_yes h))) (λ h. h) (le_or_lt m p)

  -- a lower bound holds sooner
  bit_mono : (n : ℕ) → n ≤ m → bit_of (leb m p) ≤ bit_of (leb n p)
  bit_mono n l = ⊎_elim (λ h. omega (arith, bit_le (leb m p), ap bit_of (le-leb n p h))) (λ h. omega (arith, bit_no (omega arith))) (le_or_lt n p)

-- ---- what a byte that is not off tells

-- b may stand behind p3 p2 p1
record Fine (p3 p2 p1 b : ℕ) : Type 0 where
  due : bit_of (is_continuation b) ≡ bit_of (leb 0xC0 p1) + bit_of (leb 0xE0 p2) + bit_of (leb 0xF0 p3)
  begins : invalid_byte_of b ≡ false
  fits : outside_of p1 b ≡ false

-- where one at most asks, it is told by whether any does
any_of : (x y z : Bool) → bit_of x + bit_of y + bit_of z ≤ 1 → bit_of (x || y || z) ≡ bit_of x + bit_of y + bit_of z
any_of true y z h = omega arith
any_of false true z h = omega arith
any_of false false z h = omega arith

fine : (p3 p2 p1 b : ℕ) → asking p3 p2 p1 ≤ 1 → misplaced_of p3 p2 p1 b ≡ false → Fine p3 p2 p1 b
unfolding misplaced_of due_of asking
fine p3 p2 p1 b h e =
    let x = beq (is_continuation b) (due_of p3 p2 p1) in
    let (f, o) = or_split (not x || invalid_byte_of b) (outside_of p1 b) e in
    let (d, n) = or_split (not x) (invalid_byte_of b) f in
    record {
      due = ap bit_of (beq_true (is_continuation b) (due_of p3 p2 p1) (not-false x d)) ∙ any_of (leb 0xC0 p1) (leb 0xE0 p2) (leb 0xF0 p3) h;
      begins = n;
      fits = o;
    }

cont_bounds : (b : ℕ) → is_continuation b ≡ true → (0x80 ≤ b) × (b ≤ 0xBF)
unfolding is_continuation
cont_bounds b c = within_bounds 0x80 0xBF b (known c)

never_low : (b : ℕ) → b < 0xC0 → invalid_byte_of b ≡ false
unfolding invalid_byte_of
never_low b h = rw (under 0xC0 0xC1 b h) (lt-leb 0xF5 b (omega arith))

-- ---- what three bytes ask for

module _ (p3 p2 p1 : ℕ) where
  asked_lead : 0xC0 ≤ p1 → asked p3 p2 p1 ≡ lead_from p1
  unfolding asked
  asked_lead h = rw (le-leb 0xC0 p1 h)

  asked_some : p1 < 0xC0 → (n : ℕ) → bit_of (leb 0xE0 p2) + bit_of (leb 0xF0 p2) + bit_of (leb 0xF0 p3) ≡ n → asked p3 p2 p1 ≡ Some (n, 0x80, 0xBF)
  unfolding asked
  asked_some h n e = rw (lt-leb 0xC0 p1 h, e)

  asked_none : pending_of p3 p2 p1 ≡ 0 → asked p3 p2 p1 ≡ Some (0, 0x80, 0xBF)
  unfolding pending_of
  asked_none e = asked_some (bit_under 0xC0 p1 (omega arith)) 0 (omega (arith, bit_mono 0xF0 p2 0xE0 (omega arith)))

-- ---- one byte more

module _ (p3 p2 p1 b : ℕ) (f : Fine p3 p2 p1 b) where
  on_cont : invalid_byte_of p1 ≡ false → is_continuation b ≡ true → (l : List ℕ) → well_formed_from (b ∷ l) (asked p3 p2 p1) ≡ well_formed_from l (asked p2 p1 b)
  unfolding is_continuation
  on_cont g c l =
      let d = f.due in
      let e : bit_of (is_continuation b) ≡ 1 = ap bit_of c in
      let m = bit_mono 0xF0 p2 0xE0 (omega arith) in
      let below = (cont_bounds b c).1 in
      ⊎_elim
      (λ h.
      let o = opened p1 b c f.fits g h in
      let n = bit_of (leb 0xE0 p1) + bit_of (leb 0xF0 p1) in
      ap (well_formed_from (b ∷ l)) (asked_lead p3 p2 p1 h ∙ o.lead)
      ∙ ap (λ v. v && well_formed_from l (Some (n, 0x80, 0xBF))) o.fits
      ∙ ap (well_formed_from l) (sym (asked_some p2 p1 b (omega arith) n (omega (arith, bit_yes 0xC0 p1 h)))))
      (λ h.
      let n = bit_of (leb 0xF0 p2) in
      ap (well_formed_from (b ∷ l)) (asked_some p3 p2 p1 h (suc n) (omega (arith, bit_no 0xC0 p1 h)))
      ∙ ap (λ v. v && well_formed_from l (Some (n, 0x80, 0xBF))) c
      ∙ ap (well_formed_from l) (sym (asked_some p2 p1 b (omega arith) n (omega (arith, bit_no 0xE0 p1 (omega arith), bit_no 0xF0 p1 (omega arith))))))
      (le_or_lt 0xC0 p1)

  on_start : is_continuation b ≡ false → (l : List ℕ) → well_formed_from (b ∷ l) (asked p3 p2 p1) ≡ well_formed_from l (asked p2 p1 b)
  unfolding is_continuation rows
  on_start c l =
      let d = f.due in
      let e : bit_of (is_continuation b) ≡ 0 = ap bit_of c in
      let m = bit_mono 0xF0 p2 0xE0 (omega arith) in
      let h = bit_under 0xC0 p1 (omega arith) in
      ap (well_formed_from (b ∷ l)) (asked_some p3 p2 p1 h 0 (omega arith))
      ∙ ap (well_formed_from l) (⊎_elim
      (λ k. sym (asked_lead p2 p1 b k))
      (λ k.
      let z : b < 0x80 = ⊎_elim (λ y. absurd (let n : ◌≡◌ {A = ℕ} 0 1 = cc (inside 0x80 0xBF b y (omega arith)) in omega arith)) (λ y. y) (le_or_lt 0x80 b) in
      sym (lead_row 0 0x00 0x7F tt (omega arith) (omega arith))
      ∙ sym (asked_some p2 p1 b k 0 (omega (arith, bit_no 0xE0 p1 (omega arith), bit_no 0xF0 p1 (omega arith)))))
      (le_or_lt 0xC0 b))

  rests : invalid_byte_of p1 ≡ false → (l : List ℕ) → well_formed_from (b ∷ l) (asked p3 p2 p1) ≡ well_formed_from l (asked p2 p1 b)
  rests g l = go (is_continuation b) refl
    where
      go : (c : Bool) → is_continuation b ≡ c → well_formed_from (b ∷ l) (asked p3 p2 p1) ≡ well_formed_from l (asked p2 p1 b)
      go true e = on_cont g e l
      go false e = on_start e l

  -- a continuation begins no character
  apart : bit_of (leb 0xC0 b) + bit_of (is_continuation b) ≤ 1
  apart = go (is_continuation b) refl
    where
      go : (c : Bool) → is_continuation b ≡ c → bit_of (leb 0xC0 b) + bit_of c ≤ 1
      go true e = omega (arith, bit_no 0xC0 b (omega (arith, cont_bounds b e)))
      go false e = omega (arith, bit_le (leb 0xC0 b))

  single_on : asking p2 p1 b ≤ 1
  unfolding asking
  single_on = omega (arith, f.due, apart, bit_mono 0xE0 p1 0xC0 (omega arith), bit_mono 0xF0 p2 0xE0 (omega arith))

  -- the character ends behind b, or goes on
  held_on : (pending_of p2 p1 b ≡ 0) ⊎ ((pending_of p2 p1 b ≡ suc (pending_of p3 p2 p1)) × (pending_of p3 p2 p1 ≡ pending_of p3 p2 p1 - 1 + bit_of (is_continuation b)))
  unfolding pending_of
  held_on =
      let d = f.due in
      let x = apart in
      let y = bit_mono 0xE0 p1 0xC0 (omega arith) in
      let z = bit_mono 0xF0 p2 0xE0 (omega arith) in
      ⊎_elim (λ h. inr (omega arith, omega arith)) (λ h. inl (omega arith)) (le_or_lt 1 (pending_of p2 p1 b))

-- ---- a window

shift : {A : Type 0} (g : ℕ → ℕ → ℕ → A) (t : List ℕ) (i : ℕ) → 3 ≤ i → before g t (i + 1) ≡ g (get_or t (i - 2) 0) (get_or t (i - 1) 0) (get_or t i 0)
shift g t i h =
    let x : i + 1 - 3 ≡ i - 2 = omega arith in
    let y : i + 1 - 2 ≡ i - 1 = omega arith in
    let z : i + 1 - 1 ≡ i = omega arith in
    λ k. g (get_or t (x k) 0) (get_or t (y k) 0) (get_or t (z k) 0)

passed_same : (t : List ℕ) {i j c d : ℕ} → Passed t i c → i ≡ j → c ≡ d → Passed t j d
passed_same t s p q = rw (← p, ← q) s

num_bit : (t : List ℕ) (i : ℕ) → i < length t → number_of_chars (drop i t) + bit_of (is_continuation (get_or t i 0)) ≡ suc (number_of_chars (drop (i + 1) t))
num_bit t i h = go (is_continuation (get_or t i 0)) refl
  where
    go : (c : Bool) → is_continuation (get_or t i 0) ≡ c → number_of_chars (drop i t) + bit_of c ≡ suc (number_of_chars (drop (i + 1) t))
    go true e = omega (arith, num_cont t i h e)
    go false e = omega (arith, num_start t i h e)

module _ (t : List ℕ) (i conts : ℕ) where
  -- at the end of a character
  pub window_first : (r : ℕ) → Passed t i conts → 3 ≤ i → r ≡ before pending_of t i → r ≡ 0 → Window t i conts
  unfolding pending_of asking
  window_first r s h e z =
      let none : before pending_of t i ≡ 0 = omega arith in
      let l = bit_under 0xC0 (get_or t (i - 1) 0) (omega arith) in
      record {
        three = h;
        below = s.below;
        few = s.few;
        num = s.num;
        begins = never_low (get_or t (i - 1) 0) l;
        single = omega arith;
        enough = omega arith;
        ahead = ap (well_formed_from (drop i t)) (asked_none (get_or t (i - 3) 0) (get_or t (i - 2) 0) (get_or t (i - 1) 0) none) ∙ s.well;
        behind = λ n q. passed_same t s (omega arith) (omega arith);
      }

  module _ (w : Window t i conts) where
    -- back to the end of the last character
    pub window_back : (r : ℕ) → r ≡ before pending_of t i → Passed t (i - r) (conts - (r - 1))
    window_back r e = w.behind r e

    pub window_end : (r : ℕ) → r ≡ before pending_of t i → r ≡ 0 → Passed t i conts
    window_end r e z = passed_same t (window_back r e) (omega arith) (omega arith)

    pub window_room : (r : ℕ) → r ≡ before pending_of t i → r ≤ i
    unfolding pending_of asking
    window_room r e = let l = w.three in let s = w.single in omega arith

    module _ (h : i < length t) (e : before misplaced_of t i (get_or t i 0) ≡ false) where
      window_on : Window t (i + 1) (conts + bit_of (is_continuation (get_or t i 0)))
      window_on =
          let p3 = get_or t (i - 3) 0 in
          let p2 = get_or t (i - 2) 0 in
          let p1 = get_or t (i - 1) 0 in
          let b = get_or t i 0 in
          let f = fine p3 p2 p1 b w.single e in
          let l = w.three in
          let u = bit_le (is_continuation b) in
          let n : i + 1 + number_of_chars (drop (i + 1) t) ≡ conts + bit_of (is_continuation b) + number_of_chars t = omega (arith, w.num, num_bit t i h) in
          let z : i + 1 - 1 ≡ i = omega arith in
          let held = shift pending_of t i l in
          let on = held_on p3 p2 p1 b f in
          let a : well_formed_from (drop (i + 1) t) (before asked t (i + 1)) ≡ is_well_formed t =
          ap (well_formed_from (drop (i + 1) t)) (shift asked t i l)
          ∙ sym (ap (λ x. well_formed_from x (asked p3 p2 p1)) (next t i h) ∙ rests p3 p2 p1 b f w.begins (drop (i + 1) t))
          ∙ w.ahead in
          record {
            three = omega arith;
            below = omega arith;
            few = omega (arith, w.few);
            num = n;
            begins = ap (λ j. invalid_byte_of (get_or t j 0)) z ∙ f.begins;
            single = rw (shift asking t i l) (single_on p3 p2 p1 b f);
            enough = ⊎_elim (λ x. omega (arith, held)) (λ x. omega (arith, held, w.enough)) on;
            ahead = a;
            behind = λ m q.
                ⊎_elim
                (λ x. passed_same
                t
                (record { below = omega arith; few = omega (arith, w.few); well = sym (ap (well_formed_from (drop (i + 1) t)) (shift asked t i l ∙ asked_none p2 p1 b x)) ∙ a; num = n })
                (omega (arith, held))
                (omega (arith, held)))
                (λ x. passed_same t (w.behind (pending_of p3 p2 p1) refl) (omega (arith, held)) (omega (arith, held, w.enough)))
                on;
          }

-- over ASCII bytes, where nothing is held
pub window_run : (t : List ℕ) (i j conts r : ℕ) → Window t i conts → r ≡ before pending_of t i → r ≡ 0 → Runs t i j → i + 3 ≤ j → Window t j conts
unfolding pending_of
window_run t i j conts r w e z run h =
    let low : (k m : ℕ) → j - 3 ≤ k → k < j → 0x80 ≤ m → bit_of (leb m (get_or t k 0)) ≡ 0 =
    λ k m l u g. bit_no m (get_or t k 0) (omega (arith, runs_byte t i j k run (omega arith) u)) in
    let none : 0 ≡ before pending_of t j =
    omega (arith, low (j - 1) 0xC0 (omega arith) (omega arith) (omega arith), low (j - 2) 0xE0 (omega arith) (omega arith) (omega arith), low (j - 3) 0xF0 (omega arith) (omega arith) (omega arith)) in
    window_first t j conts 0 (passed_run t i j conts (window_end t i conts w r e z) run) (omega arith) none refl

-- ---- many bytes

module _ (t : List ℕ) where
  stands_part : (i to j m : ℕ) → StandWell t i to → i ≤ j → m ≤ to → StandWell t j m
  stands_part i to j m s l h = record { each = λ k x y. s.each k (omega arith) (omega arith) }

  -- over bytes that may stand; how many continuations were passed is told by the place
  window_far : (n i conts c : ℕ) → Window t i conts → i + n ≤ length t → StandWell t i (i + n) → i + n + number_of_chars (drop (i + n) t) ≡ c + number_of_chars t → Window t (i + n) c
  window_far zero i conts c w h s e =
      let z : i + 0 ≡ i = omega arith in
      let v : conts ≡ c = omega (arith, w.num, ap (λ j. number_of_chars (drop j t)) z) in
      rw (z, ← v) w
  window_far (suc n) i conts c w h s e =
      let z : i + 1 + n ≡ i + suc n = omega arith in
      rw z at (window_far n (i + 1) _ c (window_on t i conts w (omega arith) (s.each i (omega arith) (omega arith))) (omega arith) (stands_part i (i + suc n) (i + 1) (i + 1 + n) s (omega arith) (omega arith)) (omega (arith, ap (λ j. number_of_chars (drop j t)) z)))

  window_to : (i to conts c : ℕ) → Window t i conts → i ≤ to → to ≤ length t → StandWell t i to → to + number_of_chars (drop to t) ≡ c + number_of_chars t → Window t to c
  window_to i to conts c w l h s e =
      let z : i + (to - i) ≡ to = omega arith in
      rw z at (window_far (to - i) i conts c w (omega arith) (rw z s) (rw z e))

  module _ (at : ℕ) where
    pub goes_none : at ≤ length t → Goes t at (at + 0) 0 0
    goes_none h =
        let z : at + 0 ≡ at = omega arith in
        record { few = omega arith; below = omega arith; num = omega (arith, ap (λ j. number_of_chars (drop j t)) z); well = λ y. record { each = λ k l u. absurd (omega arith) } }

    pub goes_more : (k bad more r c : ℕ) → Goes t at (at + k) bad more → at + k < length t → Tells r (before misplaced_of t (at + k) (get_or t (at + k) 0)) → c ≡ bit_of (is_continuation (get_or t (at + k) 0)) → Goes t at (at + (k + 1)) (bit_or bad r) (more + c)
    goes_more k bad more r c g h e p =
        let z : at + k + 1 ≡ at + (k + 1) = omega arith in
        record {
          few = omega (arith, g.few, bit_le (is_continuation (get_or t (at + k) 0)));
          below = omega arith;
          num = omega (arith, g.num, num_bit t (at + k) h, ap (λ j. number_of_chars (drop j t)) z);
          well = λ y.
              let (b, o) = or_none bad r y in
              record { each = λ j l u. ⊎_elim (λ x. let q : at + k ≡ j = omega arith in rw q at (tells_not e o)) (λ x. (g.well b).each j l x) (le_or_lt (at + k) j) };
        }

    module _ (conts : ℕ) (w : Window t at conts) where
      pub goes_on : (to bad more : ℕ) → Goes t at to bad more → bad ≡ 0 → Window t to (conts + more)
      goes_on to bad more g e = window_to at to conts (conts + more) w (omega (arith, g.few)) g.below (g.well e) (omega (arith, g.num, w.num))

      -- to the end, where the last bytes tell of it
      pub window_all : (n : ℕ) → StandWell t (length t - 16) (length t) → before pending_of t (length t) ≡ 0 → length t - at < 16 → n ≡ number_of_chars (drop at t) → n ≤ length t - at → Passed t (length t) (conts + (length t - at - n))
      window_all n s z h e l =
          let c = conts + (length t - at - n) in
          let b = w.below in
          let all : length t ≤ length t = omega arith in
          window_end t (length t) c (window_to at (length t) conts c w b all (stands_part (length t - 16) (length t) at (length t) s (omega arith) all) (omega (arith, w.num, ap number_of_chars (drop_of_length-le t all)))) 0 (sym z) refl
