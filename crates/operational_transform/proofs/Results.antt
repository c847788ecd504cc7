-- A record that a call has written can be read, and is its result.
use Prim.Native.Nat.{ℕ}
use mathlib.Core.Path.{◌≡◌, ap, ◌∙◌}
use mathlib.Core.List.{List, [], ◌∷◌}
use lib.Dec.{T, eqb}
use lib.ListN.{length, drop, take}
use mathlib.Core.Bool.{◌&&◌}
use Rattle.buffers.specs.Buffers.{put_at_front}
use Rattle.buffers.proofs.Tests.{both}
use Rattle.characters.specs.Text.{Char, chars, bytes}
use Rattle.characters.specs.Form.{is_well_formed}
use Rattle.characters.specs.Order.{order}
use Rattle.edits.specs.Sequence.{Seq}
use Rattle.edits.specs.Built.{Built}
use Rattle.edits.specs.Op.{Op, retain, delete, insert}
use Rattle.edits.specs.Build.{extend}
use Rattle.edits.specs.Compose.{compose}
use Rattle.edits.specs.Invert.{invert}
use Rattle.edits.specs.Transform.{Sides, keep_both, transform}
use Rattle.edits.specs.Apply.{apply}
use Rattle.edits.proofs.Claims.{extend_built, compose_built, invert_built, transform_built}
use Rattle.answers.specs.Answer.{success, succeeds, needs, or_else}
use Rattle.answers.specs.Output.{Out, Outs}
use Rattle.answers.proofs.Refusals.{needs_out, first_zero}
use Rattle.answers.proofs.Outputs.{wrote, wrote_both, at_front_take}
use Rattle.record.specs.Layout.{size_of, base_of, target_of}
use Rattle.record.specs.Record.{ops, record_fault, encode, fits}
use Rattle.record.proofs.Records.{ops_encode, fault_encode, size_encode, ops_good}
use Rattle.operational_transform.specs.Calls.{deliver, retain_call, delete_call, text_fault, base_text_fault, insert_call, records_fault, compose_call, invert_call, transform_call, apply_call}

-- the buffer has the record of `s` at its front, `n` bytes
pub record Stored (s : Seq) (n : ℕ) (buffer : List ℕ) : Type 0 where
  pub readable : record_fault buffer ≡ 0
  pub reads : ops buffer ≡ s
  pub size : size_of buffer ≡ n

stored : (s : Seq) (out : List ℕ) → Built s → T (fits s) → Stored s (length (encode s)) (put_at_front (encode s) out)
unfolding put_at_front
stored s out b f =
    let more = drop (length (encode s)) out in
    record { readable = fault_encode s more (record { is_built = b; in_limits = f }); reads = ops_encode s more; size = size_encode s more }

pub record Result (s : Seq) (o : Out) : Type 0 where
  pub size : ℕ
  pub answer : o.answer ≡ success (size ∷ [])
  pub out : Stored s size o.out

delivered : (fault : ℕ) (s : Seq) (out : List ℕ) → (fault ≡ 0 → Built s) → T (succeeds (deliver fault s out).answer) → Result s (deliver fault s out)
unfolding deliver
delivered fault s out b g =
    let w = wrote _ (encode s) out g in
    let (z, l) = first_zero fault _ w.no_fault in
    record { size = length (encode s); answer = ap (λ o. o.answer) w.is; out = rw w.is (stored s out (b z) (needs_out (fits s) 8 0 l).0) }

extended : (r : List ℕ) (o : Op Char) → record_fault r ≡ 0 → Built (extend (ops r) o)
extended r o z = extend_built (ops r) o (ops_good r z).is_built

pub retain_written : (r : List ℕ) (n : ℕ) (out : List ℕ) → T (succeeds (retain_call r n out).answer) → Result (extend (ops r) (retain n)) (retain_call r n out)
unfolding retain_call
retain_written r n out = delivered _ _ out (extended r (retain n))

pub delete_written : (r : List ℕ) (n : ℕ) (out : List ℕ) → T (succeeds (delete_call r n out).answer) → Result (extend (ops r) (delete n)) (delete_call r n out)
unfolding delete_call
delete_written r n out = delivered _ _ out (extended r (delete n))

pub insert_written : (r t out : List ℕ) → T (succeeds (insert_call r t out).answer) → Result (extend (ops r) (insert (chars t))) (insert_call r t out)
unfolding insert_call
insert_written r t out = delivered (text_fault r t) _ out (λ z. extended r (insert (chars t)) (first_zero (record_fault r) (needs (is_well_formed t) 3 0) z).0)

pub compose_written : (a b out : List ℕ) → T (succeeds (compose_call a b out).answer) → Result (compose (ops a) (ops b)) (compose_call a b out)
unfolding compose_call
compose_written a b out =
    delivered (or_else (records_fault a b) (needs (eqb (target_of a) (base_of b)) 8 0)) _ out (λ z. compose_built (ops a) (ops b))

pub invert_written : (r t out : List ℕ) → T (succeeds (invert_call r t out).answer) → Result (invert (ops r) (chars t)) (invert_call r t out)
unfolding invert_call
invert_written r t out = delivered (base_text_fault r t) _ out (λ z. invert_built (ops r) (chars t))

pub record Results (s : Sides Char) (o : Outs) : Type 0 where
  pub size_a : ℕ
  pub size_b : ℕ
  pub answer : o.answer ≡ success (size_a ∷ size_b ∷ [])
  pub out_a : Stored s.left size_a o.out_a
  pub out_b : Stored s.right size_b o.out_b

pub transform_written : (a b x y : List ℕ) → T (succeeds (transform_call a b x y).answer) → Results (transform order (ops a) (ops b)) (transform_call a b x y)
unfolding transform_call transform
transform_written a b x y g =
    let s = transform order (ops a) (ops b) in
    let f = or_else (records_fault a b) (needs (eqb (base_of a) (base_of b)) 8 (needs (fits s.left && fits s.right) 9 0)) in
    let w = wrote_both f (encode s.left) (encode s.right) x y g in
    let h = (needs_out (eqb (base_of a) (base_of b)) 7 _ (first_zero (records_fault a b) _ w.no_fault).1).1 in
    let (l, r) = (both (fits s.left) (fits s.right)).0 (needs_out (fits s.left && fits s.right) 8 0 h).0 in
    let k = transform_built keep_both order (ops a) (ops b) in
    record {
      size_a = length (encode s.left);
      size_b = length (encode s.right);
      answer = ap (λ o. o.answer) w.is;
      out_a = rw w.is (stored s.left x k.0 l);
      out_b = rw w.is (stored s.right y k.1 r);
    }

-- a text that was written
pub record ResultText (u : List Char) (o : Out) : Type 0 where
  pub size : ℕ
  pub answer : o.answer ≡ success (size ∷ [])
  pub out : take size o.out ≡ bytes u

pub apply_written : (r t out : List ℕ) → T (succeeds (apply_call r t out).answer) → ResultText (apply (ops r) (chars t)) (apply_call r t out)
unfolding apply_call
apply_written r t out g =
    let u = bytes (apply (ops r) (chars t)) in
    let w = wrote (base_text_fault r t) u out g in
    record { size = length u; answer = ap (λ o. o.answer) w.is; out = ap (λ o. take (length u) o.out) w.is ∙ at_front_take u out }
