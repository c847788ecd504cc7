-- The answers of transform.
use Rattle.std.specs.Prelude.{◌≡◌, ℕ, suc, ◌<◌, ◌≤◌, Bool, true, false, cond, not, ◌&&◌, eqb, leb, List, [], ◌∷◌, length, Result, Ok, Err}
use native.Mathlib.Omega.{arith}
use mathlib.Core.Path.{sym, ◌∙◌, ap, refl}
use mathlib.Core.Bool.{and-false, and-eq-true_iff}
use borrow.Author.Tests.{le-leb, lt-leb, not-true, not-false, ne_eqb, eq-eqb, leb-true}
use Rattle.buffers.specs.Buffers.{put_at_front}
use Rattle.buffers.proofs.Tests.{known}
use Rattle.characters.specs.Order.{order}
use Rattle.characters.specs.Text.{Char}
use Rattle.edits.specs.Transform.{transform, Sides}
use Rattle.answers.specs.declared.Refusal.TheVariants.{Limit, Room, IncompatibleLengths}
use Rattle.answers.specs.Answer.{refused, needs, or_else, number, success, pair_of, answer_of}
use Rattle.answers.specs.Output.{writing_both}
use Rattle.answers.specs.declared.Refusal.{Refusal}
use Rattle.record.specs.Layout.{base_of}
use Rattle.record.specs.Record.{fits, ops, record_fault, encode}
use Rattle.record.specs.Calls.{check_call}
use Rattle.record.proofs.Sequences.{fits_limits}
use Rattle.record.proofs.Checked.{stopped}
use Rattle.operational_transform.specs.Calls.{records_fault, transform_call}
use Rattle.emitter.specs.declared.inner.Emitter.{Emitter}
use Rattle.emitter.specs.InnerEmit.{within_limits, size_in, limits_then_room_both, Sizes}
use Rattle.emitter.proofs.Delivering.{sized_fits, sized_length, written_front}
use Rattle.steps.specs.InnerBoth.{WritesBoth, SizedBoth}
use Rattle.steps.specs.declared.inner.Pair.{Pair}
use Rattle.transform.specs.InnerPairs.{Transforms}

-- ---- `judge`

module _ (e f : Emitter) (x y : ℕ) (u : Bool) (pu : u ≡ within_limits e) where
  pub judge_first : not u ≡ true → Err Limit ≡ limits_then_room_both e f x y
  unfolding limits_then_room_both
  judge_first h = rw (sym pu ∙ not-true u h)

  module _ (hu : not u ≡ false) (v : Bool) (pv : v ≡ within_limits f) where
    pub judge_second : not v ≡ true → Err Limit ≡ limits_then_room_both e f x y
    unfolding limits_then_room_both
    judge_second h = rw (sym pu ∙ not-false u hu, sym pv ∙ not-true v h)

    module _ (hv : not v ≡ false) (p q : ℕ) (pp : p ≡ size_in e) (pq : q ≡ size_in f) where
      pub judge_short : x < p → Err Room ≡ limits_then_room_both e f x y
      unfolding limits_then_room_both
      judge_short h = rw (sym pu ∙ not-false u hu, sym pv ∙ not-false v hv, lt-leb (size_in e) x (omega arith))

      pub judge_shorter : p ≤ x → y < q → Err Room ≡ limits_then_room_both e f x y
      unfolding limits_then_room_both
      judge_shorter g h = rw (sym pu ∙ not-false u hu, sym pv ∙ not-false v hv, lt-leb (size_in f) y (omega arith), and-false (leb (size_in e) x))

      pub judge_bytes : p ≤ x → q ≤ y → Ok (p, q) ≡ limits_then_room_both e f x y
      unfolding limits_then_room_both
      judge_bytes g h = rw (sym pu ∙ not-false u hu, sym pv ∙ not-false v hv, le-leb (size_in e) x (omega arith), le-leb (size_in f) y (omega arith), pp, pq)

-- ---- the call

-- where the lengths differ, or a record is refused
fault_is : (a b x y : List ℕ) (k : ℕ) → or_else (records_fault a b) (needs (eqb (base_of a) (base_of b)) 8 (needs (fits (transform order (ops a) (ops b)).left && fits (transform order (ops a) (ops b)).right) 9 0)) ≡ suc k
    → transform_call a b x y ≡ record { answer = refused (suc k); out_a = x; out_b = y }
unfolding transform_call writing_both
fault_is a b x y k e = rw e

refuses : (a b x y : List ℕ) (r : Refusal) (k : ℕ) → number r ≡ suc k → transform_call a b x y ≡ record { answer = refused (suc k); out_a = x; out_b = y } → Transforms a b x y (Err r) x y
refuses a b x y r k n e = record { answer = ap refused n ∙ sym (ap (λ c. c.answer) e); out_a = sym (ap (λ c. c.out_a) e); out_b = sym (ap (λ c. c.out_b) e) }

module _ (a b x y : List ℕ) (za : record_fault a ≡ 0) (zb : record_fault b ≡ 0) (t s : ℕ) (pt : t ≡ base_of a) (ps : s ≡ base_of b) where
  pub transforms_lengths : (t ≡ s → ⊥) → Transforms a b x y (Err IncompatibleLengths) x y
  transforms_lengths h = refuses a b x y IncompatibleLengths 7 refl (fault_is a b x y 7 (rw (za, zb, ne_eqb (base_of a) (base_of b) (λ z. h (pt ∙ z ∙ sym ps)))))

module _ (a b x y : List ℕ) (za : record_fault a ≡ 0) (zb : record_fault b ≡ 0) (h : base_of a ≡ base_of b) (r : Pair) (d : SizedBoth (transform order (ops a) (ops b)) r) (v : Result (ℕ × ℕ) Refusal) (w : v ≡ limits_then_room_both r.e r.f (length x) (length y)) where
  abbrev z₁ : Sizes (transform order (ops a) (ops b)).left r.e
  z₁ = d.left

  abbrev z₂ : Sizes (transform order (ops a) (ops b)).right r.f
  z₂ = d.right

  abbrev sides : Sides Char
  sides = transform order (ops a) (ops b)

  abbrev keep : Bool
  keep = fits sides.left && fits sides.right

  abbrev room : Bool
  room = leb (length (encode sides.left)) (length x) && leb (length (encode sides.right)) (length y)

  is : transform_call a b x y ≡ writing_both (needs keep 9 0) (encode sides.left) (encode sides.right) x y
  unfolding transform_call
  is = rw (za, zb, eq-eqb (base_of a) (base_of b) h)

  judged_is : v ≡ cond keep (cond room (Ok (length (encode sides.left), length (encode sides.right))) (Err Room)) (Err Limit)
  unfolding limits_then_room_both
  judged_is =
      w
      ∙ rw (sized_fits sides.left r.e z₁, sized_fits sides.right r.f z₂, sized_length sides.left r.e z₁, sized_length sides.right r.f z₂)

  -- a call is refused, or both records are written
  data Outcome : Type 0 where
    stops : (z : Refusal) → v ≡ Err z → transform_call a b x y ≡ record { answer = refused (number z); out_a = x; out_b = y } → Outcome
    writes : keep ≡ true → room ≡ true → v ≡ Ok (length (encode sides.left), length (encode sides.right))
        → transform_call a b x y ≡ record { answer = success (length (encode sides.left) ∷ length (encode sides.right) ∷ []); out_a = put_at_front (encode sides.left) x; out_b = put_at_front (encode sides.right) y } → Outcome

  outcome : Outcome
  unfolding writing_both
  outcome = go keep room refl refl
    where
      go : (p q : Bool) → keep ≡ p → room ≡ q → Outcome
      go true true e f = writes e f (judged_is ∙ rw (e, f)) (is ∙ rw (e, f))
      go true false e f = stops Room (judged_is ∙ rw (e, f)) (is ∙ rw (e, f))
      go false q e f = stops Limit (judged_is ∙ rw e) (is ∙ rw e)

  pub transforms_refused : (z : Refusal) → v ≡ Err z → Transforms a b x y (Err z) x y
  transforms_refused z e = go outcome
    where
      go : Outcome → Transforms a b x y (Err z) x y
      go (stops u p q) = let k : u ≡ z = cc (p, e) in record { answer = ap (λ k. refused (number k)) (sym k) ∙ sym (ap (λ c. c.answer) q); out_a = sym (ap (λ c. c.out_a) q); out_b = sym (ap (λ c. c.out_b) q) }
      go (writes f g p q) = absurd (let k : ◌≡◌ {A = ℕ} 0 1 = cc (p, e) in omega arith)

  pub transforms_written : (k l : ℕ) (x' y' : List ℕ) → v ≡ Ok (k, l) → WritesBoth r.e.ops r.f.ops (transform order (ops a) (ops b)) x y x' y'
      → Transforms a b x y (Ok (k, l)) x' y'
  transforms_written k l x' y' e u = go outcome
    where
      go : Outcome → Transforms a b x y (Ok (k, l)) x' y'
      go (stops s p q) = absurd (let z : ◌≡◌ {A = ℕ} 0 1 = cc (p, e) in omega arith)
      go (writes m n p q) =
          let f = u.left in
          let g = u.right in
          let (fa, fb) = (and-eq-true_iff (fits sides.left) (fits sides.right)).0 m in
          let (ra, rb) = (and-eq-true_iff (leb (length (encode sides.left)) (length x)) (leb (length (encode sides.right)) (length y))).0 n in
          record {
            answer = ap pair_of (sym e ∙ p) ∙ sym (ap (λ c. c.answer) q);
            out_a = written_front sides.left _ x f.emitter f.before x' ((fits_limits sides.left).0 (known fa)) (leb-true (length (encode sides.left)) (length x) ra) f.done z₁.ops f.is ∙ sym (ap (λ c. c.out_a) q);
            out_b = written_front sides.right _ y g.emitter g.before y' ((fits_limits sides.right).0 (known fb)) (leb-true (length (encode sides.right)) (length y) rb) g.done z₂.ops g.is ∙ sym (ap (λ c. c.out_b) q);
          }

-- an answer taken apart and handed on
pub handed_on : (a b x y : List ℕ) (v w : Result (ℕ × ℕ) Refusal) (x' y' : List ℕ) → Transforms a b x y v x' y' → v ≡ w → Transforms a b x y w x' y'
handed_on a b x y v w x' y' t p = record { answer = ap pair_of (sym p) ∙ t.answer; out_a = t.out_a; out_b = t.out_b }

module _ (a b x y : List ℕ) (f : Result ℕ Refusal) where
  pub transforms_second : record_fault a ≡ 0 → answer_of f ≡ check_call b → (z : Refusal) → f ≡ Err z → Transforms a b x y (Err z) x y
  transforms_second za p z q = let s = stopped b f p z q in refuses a b x y z s.less s.number_is (fault_is a b x y s.less (rw (za, s.fault)))

  pub transforms_first : answer_of f ≡ check_call a → (z : Refusal) → f ≡ Err z → Transforms a b x y (Err z) x y
  transforms_first p z q = let s = stopped a f p z q in refuses a b x y z s.less s.number_is (fault_is a b x y s.less (rw s.fault))
