-- Transforming b and a gives the outputs of transforming a and b, exchanged: no answer depends on who asks.
use mathlib.Core.List.{reverse, List, [], ◌∷◌}
use Prim.Native.Nat.{ℕ, zero, suc}
use mathlib.Core.Path.{◌≡◌, refl, sym, ap, ◌∙◌}
use mathlib.Core.Bool.{and_comm, Bool, true, false, ◌&&◌}
use lib.Dec.{leb, eqb}
use lib.ListN.{length}
use borrow.Author.Tests.{eqb-true, eqb-false, eq-eqb, ne_eqb}
use Rattle.buffers.specs.Buffers.{put_at_front}
use Rattle.characters.specs.Order.{order}
use Rattle.edits.specs.Transform.{keep_both, transform}
use Rattle.edits.proofs.Symmetry.{transform_swaps, order_flips}
use Rattle.answers.specs.Answer.{Answer, success, refused, unless_refused, needs}
use Rattle.answers.specs.Output.{Outs, writing_both}
use Rattle.answers.specs.Answer as answer
use Rattle.record.specs.Layout.{base_of}
use Rattle.record.specs.Record.{encode, fits, ops, record_fault}
use Rattle.operational_transform.specs.Calls.{transform_call}

-- ---- the call

abbrev pub exchanged : Outs → Outs
exchanged o = record { answer = turned o.answer; out_a = o.out_b; out_b = o.out_a }
  where
    turned : Answer → Answer
    turned (success ns) = success (reverse ns)
    turned (refused n) = refused n

writing_exchanged : (fault : ℕ) (p q x y : List ℕ) → writing_both fault q p y x ≡ exchanged (writing_both fault p q x y)
unfolding writing_both
writing_exchanged fault p q x y = rw (and_comm (leb (length q) (length y)) (leb (length p) (length x))) (go (answer.or_else fault _))
  where
    go : (f : ℕ) → unless_refused f (λ n. record { answer = refused n; out_a = y; out_b = x }) (record { answer = success (length q ∷ length p ∷ []); out_a = put_at_front q y; out_b = put_at_front p x })
        ≡ exchanged (unless_refused f (λ n. record { answer = refused n; out_a = x; out_b = y }) (record { answer = success (length p ∷ length q ∷ []); out_a = put_at_front p x; out_b = put_at_front q y }))
    go zero = refl
    go (suc f) = refl

eqb_comm : (m n : ℕ) → eqb m n ≡ eqb n m
eqb_comm m n = go (eqb n m) refl
  where
    go : (t : Bool) → eqb n m ≡ t → eqb m n ≡ t
    go true e = eq-eqb m n (sym (eqb-true n m e))
    go false e = ne_eqb m n (λ p. eqb-false n m e (sym p))

-- two records that can be read: the same answer, its two numbers and its outputs exchanged
pub call_swaps : (a b x y : List ℕ) → record_fault a ≡ 0 → record_fault b ≡ 0 → transform_call b a y x ≡ exchanged (transform_call a b x y)
unfolding transform_call transform
call_swaps a b x y p q =
    let s = transform order (ops a) (ops b) in
    let f = needs (eqb (base_of a) (base_of b)) 8 (needs (fits s.left && fits s.right) 9 0) in
    rw (p, q)
    (ap (λ v. writing_both (needs (eqb (base_of b) (base_of a)) 8 (needs (fits v.left && fits v.right) 9 0)) (encode v.left) (encode v.right) y x)
    (transform_swaps order order_flips keep_both (ops a) (ops b))
    ∙ (λ i. writing_both (needs (eqb_comm (base_of b) (base_of a) i) 8 (needs (and_comm (fits s.right) (fits s.left) i) 9 0)) (encode s.right) (encode s.left) y x)
    ∙ writing_exchanged f (encode s.left) (encode s.right) x y)
