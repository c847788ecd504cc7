-- One well-formed character is the encoding of one scalar value, and a text is well-formed where it is encodings put end to end.
use Rattle.std.specs.Prelude.{Some, None}
use Prim.Native.Nat.{ℕ, ◌+◌, ◌*◌, ◌-◌, ◌/◌, ◌≤◌}
use native.Mathlib.Omega.{arith}
use mathlib.Core.Path.{◌≡◌, refl, sym, ap, ap₂, ◌∙◌}
use mathlib.Core.Logic.{◌⊎◌, inl, inr, ⊎_elim, ◌↔◌}
use mathlib.Core.Bool.{Bool, true, false, cond}
use mathlib.Core.List.{List, [], ◌∷◌, ◌++◌, map}
use lib.Dec.{T}
use Rattle.characters.specs.Form.{within, Row, rows, lead_in, lead_from, whole, is_well_formed, well_char, Lead}
use Rattle.buffers.specs.Lists.{concat, all_of}
use Rattle.characters.specs.Text.{Char, chars, bytes}
use Rattle.characters.proofs.Leads.{le_or_lt, inside, within_bounds, lead_row}
use Rattle.buffers.proofs.Tests.{known, both}
use Rattle.characters.proofs.Texts.{chars_bytes, bytes_chars, bytes_well}
use Rattle.characters.specs.Scalar.{is_scalar, tail_byte, encode_scalar, decode_scalar, scalar_of}
use Rattle.characters.proofs.Codes.{encode_1, encode_2, encode_3, encode_4, decode_encode, scalar_low, scalar_high, scalar_is}

-- ---- a scalar value's bytes are one well-formed character

-- the bytes behind a first byte of a row
more_1 : (lo hi b : ℕ) → lo ≤ b → b ≤ hi → T (whole (b ∷ []) (Some (1, lo, hi)))
more_1 lo hi b l h = rw (inside lo hi b l h) tt

more_2 : (lo hi b v : ℕ) → lo ≤ b → b ≤ hi → T (whole (b ∷ tail_byte v ∷ []) (Some (2, lo, hi)))
more_2 lo hi b v l h = rw (inside lo hi b l h, inside 0x80 0xBF (tail_byte v) (omega arith) (omega arith)) tt

more_3 : (lo hi b v w : ℕ) → lo ≤ b → b ≤ hi → T (whole (b ∷ tail_byte v ∷ tail_byte w ∷ []) (Some (3, lo, hi)))
more_3 lo hi b v w l h = rw (inside lo hi b l h, inside 0x80 0xBF (tail_byte v) (omega arith) (omega arith), inside 0x80 0xBF (tail_byte w) (omega arith) (omega arith)) tt

module _ (v : ℕ) where
  well_1 : v ≤ 0x7F → T (well_char (v ∷ []))
  unfolding rows
  well_1 h = rw (← lead_row 0 0x00 0x7F {b = v} tt (omega arith) h) tt

  well_2 : 0x80 ≤ v → v ≤ 0x7FF → T (well_char ((0xC0 + v / 64) ∷ tail_byte v ∷ []))
  unfolding rows
  well_2 l h = rw (← lead_row 1 0xC2 0xDF {b = 0xC0 + v / 64} tt (omega arith) (omega arith)) (more_1 0x80 0xBF (tail_byte v) (omega arith) (omega arith))

  abbrev Three : Type 0
  Three = T (well_char ((0xE0 + v / 4096) ∷ tail_byte (v / 64) ∷ tail_byte v ∷ []))

  row_3 : (lo hi : ℕ) → Some (2, lo, hi) ≡ lead_from (0xE0 + v / 4096) → lo ≤ tail_byte (v / 64) → tail_byte (v / 64) ≤ hi → Three
  row_3 lo hi e l h = rw (← e) (more_2 lo hi (tail_byte (v / 64)) v l h)

  well_3 : 0x800 ≤ v → v ≤ 0xFFFF → (v ≤ 0xD7FF) ⊎ (0xE000 ≤ v) → Three
  unfolding rows
  well_3 l h (inr k) = row_3 0x80 0xBF (lead_row 4 0xEE 0xEF tt (omega arith) (omega arith)) (omega arith) (omega arith)
  well_3 l h (inl k) =
      ⊎_elim
      (λ a. ⊎_elim
      (λ b. row_3 0xA0 0xBF (lead_row 2 0xE0 0xE0 tt (omega arith) (omega arith)) (omega arith) (omega arith))
      (λ b. row_3 0x80 0xBF (lead_row 3 0xE1 0xEC tt (omega arith) (omega arith)) (omega arith) (omega arith))
      (le_or_lt v 0xFFF))
      (λ a. row_3 0x80 0x9F (lead_row 5 0xED 0xED tt (omega arith) (omega arith)) (omega arith) (omega arith))
      (le_or_lt v 0xCFFF)

  abbrev Four : Type 0
  Four = T (well_char ((0xF0 + v / 262144) ∷ tail_byte (v / 4096) ∷ tail_byte (v / 64) ∷ tail_byte v ∷ []))

  row_4 : (lo hi : ℕ) → Some (3, lo, hi) ≡ lead_from (0xF0 + v / 262144) → lo ≤ tail_byte (v / 4096) → tail_byte (v / 4096) ≤ hi → Four
  row_4 lo hi e l h = rw (← e) (more_3 lo hi (tail_byte (v / 4096)) (v / 64) v l h)

  well_4 : 0x10000 ≤ v → v ≤ 0x10FFFF → Four
  unfolding rows
  well_4 l h =
      ⊎_elim
      (λ a. row_4 0x90 0xBF (lead_row 6 0xF0 0xF0 tt (omega arith) (omega arith)) (omega arith) (omega arith))
      (λ a. ⊎_elim
      (λ b. row_4 0x80 0xBF (lead_row 7 0xF1 0xF3 tt (omega arith) (omega arith)) (omega arith) (omega arith))
      (λ b. row_4 0x80 0x8F (lead_row 8 0xF4 0xF4 tt (omega arith) (omega arith)) (omega arith) (omega arith))
      (le_or_lt v 0xFFFFF))
      (le_or_lt v 0x3FFFF)

  pub encode_well : T (is_scalar v) → T (well_char (encode_scalar v))
  encode_well s =
      ⊎_elim
      (λ a. rw (encode_1 v a) (well_1 a))
      (λ a. ⊎_elim
      (λ b. rw (encode_2 v a b) (well_2 a b))
      (λ b. ⊎_elim
      (λ c. rw (encode_3 v b c) (well_3 b c (⊎_elim inl (λ k. inr k.0) (scalar_is v s))))
      (λ c. rw (encode_4 v c) (well_4 c (⊎_elim (λ k. omega arith) (λ k. k.1) (scalar_is v s))))
      (le_or_lt v 0xFFFF))
      (le_or_lt v 0x7FF))
      (le_or_lt v 0x7F)

-- ---- one well-formed character is some scalar value's bytes

-- these are the bytes of a scalar value
pub record Encoded (c : List ℕ) : Type 0 where
  pub value : ℕ
  pub scalar : T (is_scalar value)
  pub is : encode_scalar value ≡ c

module _ (P : Lead → Type 0) (b : ℕ) where
  -- an argument for each row
  abbrev EachRow : List Row → Type 0
  EachRow [] = P None
  EachRow (r ∷ rs) = (r.first ≤ b → b ≤ r.last → P r.lead) × EachRow rs

  in_rows : (rs : List Row) → EachRow rs → P (lead_in rs b)
  unfolding lead_in
  in_rows [] h = h
  in_rows (r ∷ rs) h = go (within r.first r.last b) refl (in_rows rs h.1)
    where
      go : (t : Bool) → within r.first r.last b ≡ t → P (lead_in rs b) → P (cond t r.lead (lead_in rs b))
      go true e k = let (l, m) = within_bounds r.first r.last b (known e) in h.0 l m
      go false e k = k

-- a value with these bytes
encoded : (v : ℕ) {c d : List ℕ} → T (is_scalar v) → encode_scalar v ≡ d → d ≡ c → Encoded c
encoded v s e f = record { value = v; scalar = s; is = e ∙ f }

one_byte : (a : ℕ) (bs : List ℕ) (lo hi : ℕ) → a ≤ 0x7F → T (whole bs (Some (0, lo, hi))) → Encoded (a ∷ bs)
one_byte a [] lo hi h w = encoded a (scalar_low a (omega arith)) (encode_1 a h) refl
one_byte a (b ∷ bs) lo hi h w = absurd w

two_bytes : (a : ℕ) (bs : List ℕ) → 0xC2 ≤ a → a ≤ 0xDF → T (whole bs (Some (1, 0x80, 0xBF))) → Encoded (a ∷ bs)
two_bytes a [] l h w = absurd w
two_bytes a (b ∷ []) l h w =
    let (x, y) = within_bounds 0x80 0xBF b ((both (within 0x80 0xBF b) true).0 w).0 in
    let v = (a - 0xC0) * 64 + (b - 0x80) in
    let p : 0x80 ≤ v = omega arith in
    let q : v ≤ 0x7FF = omega arith in
    let first : 0xC0 + v / 64 ≡ a = omega arith in
    let second : tail_byte v ≡ b = omega arith in
    encoded v (scalar_low v (omega arith)) (encode_2 v p q) (λ i. first i ∷ second i ∷ [])
two_bytes a (b ∷ c ∷ bs) l h w = absurd ((both (within 0x80 0xBF b) false).0 w).1

module _ (a lo hi : ℕ) where
  three_bytes : (bs : List ℕ)
      → ((b c : ℕ) → lo ≤ b → b ≤ hi → 0x80 ≤ c → c ≤ 0xBF → let v = (a - 0xE0) * 4096 + (b - 0x80) * 64 + (c - 0x80) in (0x800 ≤ v) × ((v ≤ 0xD7FF) ⊎ (0xE000 ≤ v)))
      → 0xE0 ≤ a → a ≤ 0xEF → 0x80 ≤ lo → hi ≤ 0xBF → T (whole bs (Some (2, lo, hi))) → Encoded (a ∷ bs)
  three_bytes [] f l h m n w = absurd w
  three_bytes (b ∷ []) f l h m n w = absurd ((both (within lo hi b) false).0 w).1
  three_bytes (b ∷ c ∷ []) f l h m n w =
      let (s, t) = (both (within lo hi b) (whole (c ∷ []) (Some (1, 0x80, 0xBF)))).0 w in
      let (x, y) = within_bounds lo hi b s in
      let (z, u) = within_bounds 0x80 0xBF c ((both (within 0x80 0xBF c) true).0 t).0 in
      let v = (a - 0xE0) * 4096 + (b - 0x80) * 64 + (c - 0x80) in
      let (p, r) = f b c x y z u in
      let q : v ≤ 0xFFFF = omega arith in
      let first : 0xE0 + v / 4096 ≡ a = omega arith in
      let second : tail_byte (v / 64) ≡ b = omega arith in
      let third : tail_byte v ≡ c = omega arith in
      encoded v (⊎_elim (scalar_low v) (λ k. scalar_high v k (omega arith)) r) (encode_3 v p q) (λ i. first i ∷ second i ∷ third i ∷ [])
  three_bytes (b ∷ c ∷ d ∷ bs) f l h m n w =
      absurd ((both (within 0x80 0xBF c) false).0 ((both (within lo hi b) (whole (c ∷ d ∷ bs) (Some (1, 0x80, 0xBF)))).0 w).1).1

  four_bytes : (bs : List ℕ)
      → ((b c d : ℕ) → lo ≤ b → b ≤ hi → 0x80 ≤ c → c ≤ 0xBF → 0x80 ≤ d → d ≤ 0xBF
      → let v = (a - 0xF0) * 262144 + (b - 0x80) * 4096 + (c - 0x80) * 64 + (d - 0x80) in (0x10000 ≤ v) × (v ≤ 0x10FFFF))
      → 0xF0 ≤ a → 0x80 ≤ lo → hi ≤ 0xBF → T (whole bs (Some (3, lo, hi))) → Encoded (a ∷ bs)
  four_bytes [] f l m n w = absurd w
  four_bytes (b ∷ []) f l m n w = absurd ((both (within lo hi b) false).0 w).1
  four_bytes (b ∷ c ∷ []) f l m n w = absurd ((both (within 0x80 0xBF c) false).0 ((both (within lo hi b) (whole (c ∷ []) (Some (2, 0x80, 0xBF)))).0 w).1).1
  four_bytes (b ∷ c ∷ d ∷ []) f l m n w =
      let (s, t) = (both (within lo hi b) (whole (c ∷ d ∷ []) (Some (2, 0x80, 0xBF)))).0 w in
      let (x, y) = within_bounds lo hi b s in
      let (g, j) = (both (within 0x80 0xBF c) (whole (d ∷ []) (Some (1, 0x80, 0xBF)))).0 t in
      let (z, u) = within_bounds 0x80 0xBF c g in
      let (e, k) = within_bounds 0x80 0xBF d ((both (within 0x80 0xBF d) true).0 j).0 in
      let v = (a - 0xF0) * 262144 + (b - 0x80) * 4096 + (c - 0x80) * 64 + (d - 0x80) in
      let (p, q) = f b c d x y z u e k in
      let first : 0xF0 + v / 262144 ≡ a = omega arith in
      let second : tail_byte (v / 4096) ≡ b = omega arith in
      let third : tail_byte (v / 64) ≡ c = omega arith in
      let fourth : tail_byte v ≡ d = omega arith in
      encoded v (scalar_high v (omega arith) q) (encode_4 v p) (λ i. first i ∷ second i ∷ third i ∷ fourth i ∷ [])
  four_bytes (b ∷ c ∷ d ∷ e ∷ bs) f l m n w =
      absurd ((both (within 0x80 0xBF d) false).0 ((both (within 0x80 0xBF c) (whole (d ∷ e ∷ bs) (Some (1, 0x80, 0xBF)))).0 ((both (within lo hi b) (whole (c ∷ d ∷ e ∷ bs) (Some (2, 0x80, 0xBF)))).0 w).1).1).1

-- each row of the table
by_row : (a : ℕ) (bs : List ℕ) → EachRow (λ x. T (whole bs x) → Encoded (a ∷ bs)) a rows
unfolding rows
by_row a bs = (
  λ l h w. one_byte a bs 0x80 0xBF h w,
  (
    λ l h w. two_bytes a bs l h w,
    (
      λ l h w. three_bytes a 0xA0 0xBF bs (λ b c x y z u. (omega arith, inl (omega arith))) l (omega arith) (omega arith) (omega arith) w,
      (
        λ l h w. three_bytes a 0x80 0xBF bs (λ b c x y z u. (omega arith, inl (omega arith))) (omega arith) (omega arith) (omega arith) (omega arith) w,
        (
          λ l h w. three_bytes a 0x80 0xBF bs (λ b c x y z u. (omega arith, inr (omega arith))) (omega arith) (omega arith) (omega arith) (omega arith) w,
          (
            λ l h w. three_bytes a 0x80 0x9F bs (λ b c x y z u. (omega arith, inl (omega arith))) (omega arith) (omega arith) (omega arith) (omega arith) w,
            (
              λ l h w. four_bytes a 0x90 0xBF bs (λ b c d x y z u e k. (omega arith, omega arith)) l (omega arith) (omega arith) w,
              (
                λ l h w. four_bytes a 0x80 0xBF bs (λ b c d x y z u e k. (omega arith, omega arith)) (omega arith) (omega arith) (omega arith) w,
                (
                  λ l h w. four_bytes a 0x80 0x8F bs (λ b c d x y z u e k. (omega arith, omega arith)) (omega arith) (omega arith) (omega arith) w,
                  none bs,
                ),
              ),
            ),
          ),
        ),
      ),
    ),
  ),
)
  where
    none : (bs : List ℕ) → T (whole bs None) → Encoded (a ∷ bs)
    none [] w = absurd w
    none (b ∷ bs) w = absurd w

pub well_encoded : (c : List ℕ) → T (well_char c) → Encoded c
unfolding lead_from
well_encoded [] w = absurd w
well_encoded (a ∷ bs) w = in_rows (λ x. T (whole bs x) → Encoded (a ∷ bs)) a rows (by_row a bs) w

-- "one well-formed character" is one scalar value's bytes: every row of the table, and nothing beside it
pub well_char_encoded : (c : List ℕ) → T (well_char c) ↔ Encoded c
well_char_encoded c = (well_encoded c, λ e. rw (← e.is) (encode_well e.value e.scalar))

-- ---- characters

pub encode_scalar_of : (c : Char) → encode_scalar (scalar_of c) ≡ c.bytes
unfolding scalar_of
encode_scalar_of c =
    let e = well_encoded c.bytes c.well in
    ap encode_scalar (ap decode_scalar (sym e.is) ∙ decode_encode e.value) ∙ e.is

pub scalar_of_scalar : (c : Char) → T (is_scalar (scalar_of c))
unfolding scalar_of
scalar_of_scalar c =
    let e = well_encoded c.bytes c.well in
    let k : decode_scalar c.bytes ≡ e.value = ap decode_scalar (sym e.is) ∙ decode_encode e.value in
    rw k e.scalar

-- ---- texts

-- the bytes of scalar values, one after the other
abbrev pub encode_scalars : List ℕ → List ℕ
encode_scalars vs = concat (map encode_scalar vs)

-- some scalar values have these bytes
pub record Encodings (t : List ℕ) : Type 0 where
  pub values : List ℕ
  pub scalars : T (all_of is_scalar values)
  pub are : encode_scalars values ≡ t

pub scalars_bytes : (cs : List Char) → encode_scalars (map scalar_of cs) ≡ bytes cs
unfolding bytes
scalars_bytes [] = refl
scalars_bytes (c ∷ cs) = ap₂ ◌++◌ (encode_scalar_of c) (scalars_bytes cs)

pub all_scalars : (cs : List Char) → T (all_of is_scalar (map scalar_of cs))
all_scalars [] = tt
all_scalars (c ∷ cs) = (both (is_scalar (scalar_of c)) (all_of is_scalar (map scalar_of cs))).1 (scalar_of_scalar c, all_scalars cs)

-- the characters of scalar values
pub from_scalars : (vs : List ℕ) → T (all_of is_scalar vs) → List Char
from_scalars [] h = []
from_scalars (v ∷ vs) h = let (s, k) = (both (is_scalar v) (all_of is_scalar vs)).0 h in record { bytes = encode_scalar v; well = encode_well v s } ∷ from_scalars vs k

from_bytes : (vs : List ℕ) (h : T (all_of is_scalar vs)) → bytes (from_scalars vs h) ≡ encode_scalars vs
unfolding bytes from_scalars
from_bytes [] h = refl
from_bytes (v ∷ vs) h = ap (λ l. encode_scalar v ++ l) (from_bytes vs ((both (is_scalar v) (all_of is_scalar vs)).0 h).1)

from_values : (vs : List ℕ) (h : T (all_of is_scalar vs)) → map scalar_of (from_scalars vs h) ≡ vs
unfolding from_scalars scalar_of
from_values [] h = refl
from_values (v ∷ vs) h = ap₂ ◌∷◌ (decode_encode v) (from_values vs ((both (is_scalar v) (all_of is_scalar vs)).0 h).1)

-- a text is well-formed exactly where it is encodings of scalar values, one after the other
pub well_text : (t : List ℕ) → T (is_well_formed t) ↔ Encodings t
well_text t = (
  λ h. record { values = map scalar_of (chars t); scalars = all_scalars (chars t); are = scalars_bytes (chars t) ∙ bytes_chars t h },
  λ e. rw (← e.are, ← from_bytes e.values e.scalars) (bytes_well (from_scalars e.values e.scalars)),
)

-- and its characters are those
pub chars_values : (vs : List ℕ) → T (all_of is_scalar vs) → map scalar_of (chars (encode_scalars vs)) ≡ vs
chars_values vs h = ap (λ t. map scalar_of (chars t)) (sym (from_bytes vs h)) ∙ ap (map scalar_of) (chars_bytes (from_scalars vs h)) ∙ from_values vs h

-- so the values of a text are told by its bytes
pub values_inj : (vs ws : List ℕ) → T (all_of is_scalar vs) → T (all_of is_scalar ws) → encode_scalars vs ≡ encode_scalars ws → vs ≡ ws
values_inj vs ws h k e = sym (chars_values vs h) ∙ ap (λ t. map scalar_of (chars t)) e ∙ chars_values ws k
