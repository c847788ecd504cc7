-- What is written is well-formed UTF-8.
use Rattle.std.specs.Prelude.{Some, None}
use Prim.Native.Nat.{ℕ, zero, suc, ◌+◌, ◌/◌, ◌%◌, ◌<◌, ◌≤◌}
use native.Mathlib.Omega.{arith}
use mathlib.Core.Path.{◌≡◌, refl, ◌∙◌}
use mathlib.Core.Bool.{Bool, true, false, cond, false≢true}
use mathlib.Core.List.{List, [], ◌∷◌, ◌++◌}
use lib.Dec.{T, ltb, leb}
use borrow.Author.Tests.{ltb-true, ltb-false, ne_eqb, le-ltb}
use Rattle.characters.specs.Form.{within, lead_from, well_formed_from, is_well_formed, Lead}
use Rattle.characters.specs.Text.{Char, bytes}
use Rattle.buffers.proofs.Tests.{holds, known, le_and}
use Rattle.characters.proofs.Leads.{within_bounds, sane, sane_lead}
use Rattle.characters.proofs.Chars.{both, split, any_range, well_append}
use Rattle.characters.proofs.Bytes.{each_at}
use Rattle.characters.proofs.Texts.{bytes_well}
use Rattle.edits.specs.Op.{Op, retain, insert, delete}
use Rattle.edits.specs.Sequence.{Seq}
use Rattle.json_lists.specs.Written.{decimal_in, decimal, escaped, escaped_all, value, others, written}
use Rattle.json_lists.proofs.Escapes.{escaped_raw}
use Rattle.json_lists.proofs.Ascii.{lead_ascii}

-- ---- ASCII

well_digit : (d : ℕ) → d < 10 → is_well_formed ((0x30 + d) ∷ []) ≡ true
unfolding lead_from
well_digit d h = each_at (λ d. is_well_formed ((0x30 + d) ∷ [])) 0 10 d refl (omega arith) (omega arith)

well_ascii : (b : ℕ) → b < 0x80 → is_well_formed (escaped b) ≡ true
unfolding lead_from escaped
well_ascii b h = each_at (λ b. is_well_formed (escaped b)) 0 0x80 b refl (omega arith) (omega arith)

-- ---- numbers

well_decimal : (f n : ℕ) → is_well_formed (decimal_in f n) ≡ true
unfolding decimal_in
well_decimal zero n = refl
well_decimal (suc f) n = go (ltb n 10) refl (well_decimal f (n / 10))
  where
    go : (t : Bool) → ltb n 10 ≡ t → is_well_formed (decimal_in f (n / 10)) ≡ true → is_well_formed (cond t ((0x30 + n) ∷ []) (decimal_in f (n / 10) ++ ((0x30 + n % 10) ∷ []))) ≡ true
    go true e ih = well_digit n (ltb-true n 10 e)
    go false e ih = well_append (decimal_in f (n / 10)) ((0x30 + n % 10) ∷ []) ih ∙ well_digit (n % 10) (omega arith)

-- ---- strings

high_raw : (b : ℕ) → 0x80 ≤ b → escaped b ≡ b ∷ []
high_raw b h = escaped_raw b (ne_eqb b 0x22 (λ e. omega arith)) (ne_eqb b 0x5C (λ e. omega arith)) (le-ltb b 0x20 (omega arith))

-- escaping changes nothing but ASCII
well_escaped : (u : List ℕ) (x : Lead) → T (sane x) → well_formed_from u x ≡ true → well_formed_from (escaped_all u) x ≡ true
well_escaped [] x s e = e
well_escaped (b ∷ u) None s e = absurd (false≢true e)
well_escaped (b ∷ u) (Some (zero, lo, hi)) s e = go (ltb b 0x80) refl (well_escaped u (lead_from b) (sane_lead b) e)
  where
    go : (t : Bool) → ltb b 0x80 ≡ t → well_formed_from (escaped_all u) (lead_from b) ≡ true → well_formed_from (escaped_all (b ∷ u)) (Some (zero, lo, hi)) ≡ true
    go true p ih =
        any_range (escaped_all (b ∷ u)) lo hi ∙ well_append (escaped b) (escaped_all u) (well_ascii b (ltb-true b 0x80 p)) ∙ rw (lead_ascii b (ltb-true b 0x80 p)) at ih
    go false p ih = rw (high_raw b (ltb-false b 0x80 p)) ih
well_escaped (b ∷ u) (Some (suc n, lo, hi)) s e =
    let (w, r) = split (within lo hi b) (well_formed_from u (Some (n, 0x80, 0xBF))) e in
    let (l, h) = within_bounds lo hi b (known w) in
    let (x, y) = (le_and 0x80 lo (leb hi 0xBF)).0 s in
    rw (high_raw b (omega arith)) (both (within lo hi b) (well_formed_from (escaped_all u) (Some (n, 0x80, 0xBF))) w (well_escaped u (Some (n, 0x80, 0xBF)) tt r))

-- ---- the list

well_value : (o : Op Char) → is_well_formed (value o) ≡ true
unfolding value decimal lead_from
well_value (retain n) = well_decimal (suc n) n
well_value (insert s) =
    well_append (0x22 ∷ []) (escaped_all (bytes s) ++ (0x22 ∷ [])) refl
    ∙ well_append (escaped_all (bytes s)) (0x22 ∷ []) (well_escaped (bytes s) (Some (0, 0x80, 0xBF)) tt (holds (is_well_formed (bytes s)) (bytes_well s)))
well_value (delete n) = well_append (0x2D ∷ []) (decimal_in (suc n) n) refl ∙ well_decimal (suc n) n

well_others : (s : Seq) → is_well_formed (others s) ≡ true
unfolding others lead_from
well_others [] = refl
well_others (o ∷ s) = well_append (0x2C ∷ []) (value o ++ others s) refl ∙ well_append (value o) (others s) (well_value o) ∙ well_others s

pub well_written : (s : Seq) → T (is_well_formed (written s))
unfolding written lead_from
well_written [] = tt
well_written (o ∷ s) = known (well_append (0x5B ∷ []) (value o ++ others s) refl ∙ well_append (value o) (others s) (well_value o) ∙ well_others s)
