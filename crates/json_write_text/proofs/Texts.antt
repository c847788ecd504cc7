-- Texts, written part by part.
use Prim.Native.Nat.{ℕ, ◌+◌, ◌-◌, ◌≤◌, ◌<◌}
use native.Mathlib.Omega.{arith}
use mathlib.Core.Path.{◌≡◌, sym, ap, ◌∙◌}
use mathlib.Core.Bool.{Bool, true}
use mathlib.Core.List.{List, [], ◌∷◌, ◌++◌, append-nil}
use lib.ListN.{length, set, get_or, take, drop, length-append, length-drop, length-set}
use lib.Seq.{take-add, drop-drop, length-take-le}
use Rattle.buffers.specs.Lists.{all_of}
use Rattle.buffers.specs.InnerOver.{over}
use Rattle.buffers.proofs.Tests.{known}
use Rattle.characters.proofs.Walk.{next}
use Rattle.json_lists.specs.Grammar.{is_raw}
use Rattle.json_lists.specs.Written.{escaped, escaped_all}
use Rattle.json_lists.proofs.Lengths.{escaped_all_append, plain_extra}
use Rattle.json_write_text.specs.InnerPutting.{Puts, Goes, quoted}
use Rattle.json_write_text.proofs.Putting.{puts_one, puts_join, puts_long, goes_start, goes_on, goes_end, goes_last}

-- ---- from i on the text is still to be written

pub record TextLeft (o : List ℕ) (at : ℕ) (s : List ℕ) (from to : ℕ) (o₁ : List ℕ) (i end : ℕ) : Type 0 where
  pub below : i ≤ to
  pub goes : Goes at (escaped_all (take (to - from) (drop from s))) o end (escaped_all (take (to - i) (drop i s))) o₁

pub text_start : (o : List ℕ) (at : ℕ) (s : List ℕ) (from to : ℕ) → from ≤ to → TextLeft o at s from to o from at
text_start o at s from to h = record { below = h; goes = goes_start at (escaped_all (take (to - from) (drop from s))) o }

module _ (o : List ℕ) (at : ℕ) (s : List ℕ) (from to : ℕ) (o₁ : List ℕ) (i end : ℕ) (g : TextLeft o at s from to o₁ i end) where
  -- k bytes are in front
  front : (k : ℕ) → i + k ≤ to → escaped_all (take (to - i) (drop i s)) ≡ escaped_all (take k (drop i s)) ++ escaped_all (take (to - (i + k)) (drop (i + k) s))
  front k h =
      let e : to - i ≡ k + (to - (i + k)) = omega arith in
      ap (λ n. escaped_all (take n (drop i s))) e
      ∙ ap escaped_all (take-add k (to - (i + k)) (drop i s) ∙ ap (λ l. take k (drop i s) ++ take (to - (i + k)) l) (drop-drop k i s))
      ∙ escaped_all_append (take k (drop i s)) (take (to - (i + k)) (drop (i + k) s))

  pub part_room : (k : ℕ) → i + k ≤ to → at + length (escaped_all (take (to - from) (drop from s))) ≤ length o → end + length (escaped_all (take k (drop i s))) ≤ length o₁
  part_room k h r =
      omega
      (arith, g.goes.ends, g.goes.long, ap length (front k h), length-append (escaped_all (take k (drop i s))) (escaped_all (take (to - (i + k)) (drop (i + k) s))))

  pub part_more : (k : ℕ) → i + k ≤ to → (end' : ℕ) (o₂ : List ℕ) → Puts end (escaped_all (take k (drop i s))) o₁ end' o₂ → TextLeft o at s from to o₂ (i + k) end'
  part_more k h end' o₂ p =
      record {
        below = h;
        goes = goes_on at _ o end (escaped_all (take k (drop i s))) (escaped_all (take (to - (i + k)) (drop (i + k) s))) o₁ end' o₂ (rw (front k h) at g.goes) p;
      }

  -- one byte is in front
  module _ (h : i < to) (l : to ≤ length s) where
    one : escaped_all (take 1 (drop i s)) ≡ escaped (get_or s i 0)
    one = ap (λ u. escaped_all (take 1 u)) (next s i (omega arith)) ∙ append-nil (escaped (get_or s i 0))

    pub byte_room : at + length (escaped_all (take (to - from) (drop from s))) ≤ length o → end + length (escaped (get_or s i 0)) ≤ length o₁
    byte_room r = rw one at (part_room 1 (omega arith) r)

    pub byte_more : (end' : ℕ) (o₂ : List ℕ) → Puts end (escaped (get_or s i 0)) o₁ end' o₂ → TextLeft o at s from to o₂ (i + 1) end'
    byte_more end' o₂ p = part_more 1 (omega arith) end' o₂ (rw one p)

  pub text_end : to ≤ i → Puts at (escaped_all (take (to - from) (drop from s))) o end o₁
  text_end h = let z : to - i ≡ 0 = omega arith in goes_end at _ o end (escaped_all (take (to - i) (drop i s))) o₁ g.goes (ap (λ n. escaped_all (take n (drop i s))) z)

  pub text_room : at + length (escaped_all (take (to - from) (drop from s))) ≤ length o → end + length (escaped_all (take (to - i) (drop i s))) ≤ length o₁
  text_room r = omega (arith, g.goes.ends, g.goes.long)

  pub text_last : (end' : ℕ) (o₂ : List ℕ) → Puts end (escaped_all (take (to - i) (drop i s))) o₁ end' o₂ → Puts at (escaped_all (take (to - from) (drop from s))) o end' o₂
  text_last end' o₂ p = goes_last at _ o end _ o₁ end' o₂ g.goes p

-- ---- eight bytes

module _ (o : List ℕ) (at : ℕ) (s : List ℕ) (from : ℕ) where
  module _ (b : Bool) (p : b ≡ all_of is_raw (take 8 (drop from s))) (e : b ≡ true) (l : from + 8 ≤ length s) where
    themselves : escaped_all (take 8 (drop from s)) ≡ take 8 (drop from s)
    themselves = plain_extra (take 8 (drop from s)) (known (sym p ∙ e))

    eight_long : length (escaped_all (take 8 (drop from s))) ≡ 8
    eight_long = ap length themselves ∙ length-take-le 8 (drop from s) (simp length-drop (omega arith))

    pub eight_room : at + length (escaped_all (take 8 (drop from s))) ≤ length o → at + 8 ≤ length o
    eight_room r = omega (arith, eight_long)

    pub eight_puts : (o₁ : List ℕ) → o₁ ≡ over at (take 8 (drop from s)) o → Puts at (escaped_all (take 8 (drop from s))) o (at + 8) o₁
    eight_puts o₁ q = record { ends = omega (arith, eight_long); wrote = q ∙ ap (λ u. over at u o) (sym themselves) }

  same_part : take (from + 8 - from) (drop from s) ≡ take 8 (drop from s)
  same_part = let z : from + 8 - from ≡ 8 = omega arith in ap (λ n. take n (drop from s)) z

  pub each_room : at + length (escaped_all (take 8 (drop from s))) ≤ length o → at + length (escaped_all (take (from + 8 - from) (drop from s))) ≤ length o
  each_room r = rw same_part r

  pub each_puts : (to : ℕ) (o₁ : List ℕ) → Puts at (escaped_all (take (from + 8 - from) (drop from s))) o to o₁ → Puts at (escaped_all (take 8 (drop from s))) o to o₁
  each_puts to o₁ p = rw same_part at p

-- ---- strings

module _ (o : List ℕ) (at : ℕ) (t : List ℕ) (r : at + length (quoted t) ≤ length o) where
  string_long : at + 2 + length (escaped_all t) ≤ length o
  unfolding quoted
  string_long = omega (arith, length-append (escaped_all t) (0x22 ∷ []))

  pub string_first : at < length o
  string_first = omega (arith, string_long)

  pub string_room : at + 1 + length (escaped_all t) ≤ length (set o at 0x22)
  string_room = simp length-set (omega (arith, string_long))

  module _ (end : ℕ) (o₁ : List ℕ) (p : Puts (at + 1) (escaped_all t) (set o at 0x22) end o₁) where
    pub string_last : end < length o₁
    string_last = omega (arith, string_long, p.ends, puts_long p, length-set o at 0x22)

    pub string_ends : end < length o
    string_ends = omega (arith, string_long, p.ends)

    pub string_same : length (set o₁ end 0x22) ≡ length o
    string_same = length-set o₁ end 0x22 ∙ puts_long p ∙ length-set o at 0x22

    pub string_puts : Puts at (quoted t) o (end + 1) (set o₁ end 0x22)
    unfolding quoted
    string_puts = puts_join at (at + 1) (end + 1) (0x22 ∷ []) (escaped_all t ++ (0x22 ∷ [])) o (set o at 0x22) _ (puts_one at 0x22 o) (puts_join (at + 1) end (end + 1) (escaped_all t) (0x22 ∷ []) (set o at 0x22) o₁ _ p (puts_one end 0x22 o₁))
