-- Both sides from stages without text: counted, sized, and moved to their places with the text of the operands.
use Rattle.std.specs.Prelude.{◌≡◌, ℕ, ◌+◌, ◌-◌, ◌≤◌, min, Bool, true, false, ◌&&◌, List, map, length, take, drop, Result, Ok, Err}
use mathlib.Core.Path.{◌∙◌, ap, sym, refl}
use mathlib.Core.Bool.{and-eq-true_iff}
use native.Mathlib.Omega.{arith}
use Rattle.buffers.specs.InnerOver.{over}
use Rattle.buffers.proofs.Tests.{known}
use Rattle.characters.specs.Order.{order}
use Rattle.characters.specs.Text.{Char}
use Rattle.edits.specs.Transform.{transform, Sides}
use Rattle.edits.proofs.Theorems.{base_left, base_right, targets_agree}
use Rattle.answers.specs.declared.Refusal.TheVariants.{Limit}
use Rattle.record.specs.Record.{ops, record_fault, in_bytes, text, text_of}
use Rattle.record.specs.Layout.{start_of_text, op_count_of, text_bytes_of, base_of, target_of}
use Rattle.record.proofs.Faults.{InLimits, limits, faultless}
use Rattle.record.proofs.Records.{in_bytes_text, in_bytes_ops, ops_text, ops_length, ops_base, ops_target}
use Rattle.emitter.specs.declared.inner.Emitter.{Emitter}
use Rattle.places.specs.InnerOps.{relocated_ops}
use Rattle.emitter.specs.InnerEmit.{Finishes, headed, within_limits, limits_then_room_both}
use Rattle.emitter.proofs.Staging.{marks, marked_writes}
use Rattle.emitter.proofs.Counting.{left_length, right_length, text_left, text_right}
use Rattle.emitter.proofs.Delivering.{within_inside}
use Rattle.steps.specs.InnerSteps.{live_is}
use Rattle.steps.specs.declared.inner.Both.{Both}
use Rattle.steps.specs.InnerBoth.{MarkedBoth, WritesBoth, Counted, SizedBoth}
use Rattle.steps.specs.declared.inner.Pair.{Pair}
use Rattle.steps.specs.declared.inner.Counts.{Counts}
use Rattle.steps.proofs.Looping.{GoingBoth, both_done}
use Rattle.answers.specs.declared.Refusal.{Refusal}

-- ---- `run`

pub both_marked : (n : ℕ) (a b x₀ y₀ : List ℕ) (s : Both) (x y : List ℕ) → GoingBoth n n a b x₀ y₀ s x y → length x ≡ length x₀ → length y ≡ length y₀ → (v : Bool) → v ≡ live_is s.x s.y → v ≡ false
    → (e f : Emitter) (x' y' : List ℕ) → Finishes n s.e x e x' → Finishes n s.f y f y' → length x' ≡ length x → length y' ≡ length y
    → MarkedBoth n (transform order (ops a) (ops b)) (record { left = e.ops; right = f.ops; target = e.target }) x' y'
both_marked n a b x₀ y₀ s x y g lx ly v l z e f x' y' p q lx' ly' =
    let d = both_done n n a b x₀ y₀ s x y g v l z (record { e = e; f = f }) x' y' p q in
    let u = d.left.small in
    let w = d.right.small in
    record {
      counted = record { left = d.left.sizes.ops; right = d.right.sizes.ops; target_is = d.left.sizes.target_is; small = (u.ops, w.ops, u.target) };
      left = marks d.left (lx' ∙ lx);
      right = marks d.right (ly' ∙ ly);
    }

-- ---- `place_with_text`

part_is : (p q a m : ℕ) (r o : List ℕ) → p ≡ q → over p (take (a + m - a) (drop a r)) o ≡ over q (take m (drop a r)) o
part_is p q a m r o e = let z : a + m - a ≡ m = omega arith in λ i. over (e i) (take (z i) (drop a r)) o

pub places_text : (slots n : ℕ) (e : Emitter) (stage r out : List ℕ) {f x : ℕ} {o₁ o₂ o₃ : List ℕ} → f ≡ start_of_text n → x ≡ start_of_text e.ops → o₁ ≡ over x (take (f + e.text - f) (drop f r)) out
    → o₂ ≡ relocated_ops slots e.ops e.ops stage o₁ → o₃ ≡ headed e o₂ → o₃ ≡ headed e (relocated_ops slots e.ops e.ops stage (over (start_of_text e.ops) (take e.text (drop (start_of_text n) r)) out))
places_text slots n e stage r out {f} {x} pf px p q w =
    w ∙ ap (headed e) (q ∙ ap (relocated_ops slots e.ops e.ops stage) (p ∙ part_is x (start_of_text e.ops) f e.text r out px ∙ ap (λ k. over (start_of_text e.ops) (take e.text (drop k r)) out) pf))

-- ---- `sizes`, and both sides at their places

pub bounds : (r : List ℕ) → record_fault r ≡ 0 → InLimits r
bounds r z = (limits r).0 ((faultless r).0 z).in_limits

pub text_there : (r : List ℕ) → record_fault r ≡ 0 → (n t : ℕ) → n ≡ op_count_of r → t ≡ text_bytes_of r → take t (drop (start_of_text n) r) ≡ text (map in_bytes (ops r))
unfolding text_of
text_there r z n t pn pt = (λ i. take (pt i) (drop (start_of_text (pn i)) r)) ∙ sym (ap text (in_bytes_ops r z) ∙ in_bytes_text r z)

module _ (a b : List ℕ) (za : record_fault a ≡ 0) (zb : record_fault b ≡ 0) where
  abbrev sides : Sides Char
  sides = transform order (ops a) (ops b)

  left_bytes : length (text (map in_bytes sides.left)) ≡ text_bytes_of a
  left_bytes = ap length (text_left (ops a) (ops b)) ∙ ops_text a za

  right_bytes : length (text (map in_bytes sides.right)) ≡ text_bytes_of b
  right_bytes = ap length (text_right (ops a) (ops b)) ∙ ops_text b zb

  pub both_sized : base_of a ≡ base_of b → (c : Counts) → Counted (transform order (ops a) (ops b)) c → (ta gb tb ga : ℕ) → ta ≡ text_bytes_of a → gb ≡ target_of b → tb ≡ text_bytes_of b → ga ≡ target_of a
      → SizedBoth (transform order (ops a) (ops b)) (record { e = record { ins = 0; del = 0; ret = 0; ops = c.left; text = ta; base = gb; target = c.target }; f = record { ins = 0; del = 0; ret = 0; ops = c.right; text = tb; base = ga; target = c.target } })
  both_sized agree c n ta gb tb ga pta pgb ptb pga =
      let same = ops_base a za ∙ agree ∙ sym (ops_base b zb) in
      let la = bounds a za in
      let lb = bounds b zb in
      record {
        left = record { ops = n.left; text_bytes = pta ∙ sym left_bytes; base_is = pgb ∙ sym (base_left (ops a) (ops b) same ∙ ops_target b zb); target_is = n.target_is };
        right = record { ops = n.right; text_bytes = ptb ∙ sym right_bytes; base_is = pga ∙ sym (base_right (ops a) (ops b) same ∙ ops_target a za); target_is = n.target_is ∙ targets_agree (ops a) (ops b) same };
        left_small = omega (arith, n.small, la.text_bytes, lb.targets);
        right_small = omega (arith, n.small, lb.text_bytes, la.targets);
      }

  module _ (na nb : ℕ) (pa : na ≡ op_count_of a) (pb : nb ≡ op_count_of b) (p : Pair) (z : SizedBoth (transform order (ops a) (ops b)) p) where
    -- the text that goes with either side
    pub text_room_left : start_of_text na + p.e.text ≤ length a
    text_room_left = omega (arith, z.left.text_bytes, left_bytes, (bounds a za).whole)

    pub text_room_right : start_of_text nb + p.f.text ≤ length b
    text_room_right = omega (arith, z.right.text_bytes, right_bytes, (bounds b zb).whole)

    -- what is written has a place in its stage
    module _ (slots : ℕ) (h : min (na + nb) 1024 ≤ slots) (x y : ℕ) (v : Result (ℕ × ℕ) Refusal) (w : v ≡ limits_then_room_both p.e p.f x y) (k l : ℕ) (q : v ≡ Ok (k, l)) where
      inside : (within_limits p.e ≡ true) × (within_limits p.f ≡ true)
      unfolding limits_then_room_both
      inside = go (within_limits p.e && within_limits p.f) refl
        where
          go : (t : Bool) → (within_limits p.e && within_limits p.f) ≡ t → (within_limits p.e ≡ true) × (within_limits p.f ≡ true)
          go true e = (and-eq-true_iff (within_limits p.e) (within_limits p.f)).0 e
          go false e = absurd (let u : v ≡ Err Limit = w ∙ rw e in let c : ◌≡◌ {A = ℕ} 0 1 = cc (u, q) in omega arith)

      pub few_places_left : p.e.ops ≤ slots
      few_places_left = omega (arith, (within_inside p.e (known inside.0)).ops, left_length (ops a) (ops b), ops_length a za, ops_length b zb, z.left.ops)

      pub few_places_right : p.f.ops ≤ slots
      few_places_right = omega (arith, (within_inside p.f (known inside.1)).ops, right_length (ops a) (ops b), ops_length a za, ops_length b zb, z.right.ops)

    pub text_placed : (slots : ℕ) (c : Counts) (x y : List ℕ) → MarkedBoth slots (transform order (ops a) (ops b)) c x y → p.e.ops ≤ slots → p.f.ops ≤ slots → start_of_text slots ≤ length x → start_of_text slots ≤ length y → (o w o' w' : List ℕ)
        → o' ≡ headed p.e (relocated_ops slots p.e.ops p.e.ops x (over (start_of_text p.e.ops) (take p.e.text (drop (start_of_text na) a)) o))
        → w' ≡ headed p.f (relocated_ops slots p.f.ops p.f.ops y (over (start_of_text p.f.ops) (take p.f.text (drop (start_of_text nb) b)) w))
        → WritesBoth p.e.ops p.f.ops (transform order (ops a) (ops b)) o w o' w'
    text_placed slots c x y m fe ff lx ly o w o' w' d e =
        record {
          left = marked_writes slots sides.left p.e x _ o o' m.left z.left z.left_small fe lx (text_there a za na p.e.text pa (z.left.text_bytes ∙ left_bytes) ∙ sym (text_left (ops a) (ops b))) d;
          right = marked_writes slots sides.right p.f y _ w w' m.right z.right z.right_small ff ly (text_there b zb nb p.f.text pb (z.right.text_bytes ∙ right_bytes) ∙ sym (text_right (ops a) (ops b))) e;
        }
