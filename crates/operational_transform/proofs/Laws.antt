-- TP1, compose and invert on the calls' own bytes. Every record that a call has written is taken with any bytes behind it.
use Prim.Native.Nat.{ℕ}
use native.Mathlib.Omega.{arith}
use mathlib.Core.Path.{◌≡◌, refl, sym, ap, ◌∙◌}
use mathlib.Core.Bool.{Bool, true, false, ◌&&◌}
use mathlib.Core.Logic.{◌↔◌, ◌≢◌}
use mathlib.Core.List.{List, [], ◌∷◌, ◌++◌}
use lib.Dec.{T, eqb, eqb→eq, leb}
use borrow.Author.Tests.{ne_eqb}
use lib.ListN.{length}
use Rattle.characters.specs.Form.{is_well_formed}
use Rattle.characters.specs.Chars.{number_of_chars}
use Rattle.characters.specs.Text.{Char, chars, bytes}
use Rattle.characters.specs.Order.{order}
use Rattle.buffers.specs.Buffers.{put_at_front}
use Rattle.buffers.proofs.Tests.{both, holds, equal_T}
use Rattle.characters.proofs.Texts.{chars_bytes, bytes_chars, chars_length, bytes_well}
use Rattle.answers.specs.Answer.{succeeds, success, needs, or_else, refused, unless_refused}
use Rattle.edits.specs.Op.{base}
use Rattle.record.specs.Layout.{base_of, target_of}
use Rattle.edits.specs.Sequence.{Seq}
use Rattle.record.specs.Record.{encode, fits, ops, record_fault}
use Rattle.record.proofs.Sequences.{Good}
use Rattle.answers.proofs.Refusals.{needs_out, first_zero}
use Rattle.record.proofs.Records.{ops_encode, fault_encode, ops_base, ops_target}
use Rattle.edits.specs.Apply.{apply}
use Rattle.edits.specs.Compose.{compose}
use Rattle.edits.specs.Transform.{transform}
use Rattle.edits.specs.Invert.{invert}
use Rattle.answers.specs.Output.{Out, writing}
use Rattle.operational_transform.specs.Calls.{records_fault, text_fault, base_text_fault, deliver, apply_call, compose_call, transform_call, invert_call}
use Rattle.answers.proofs.Outputs.{wrote, wrote_both, at_front_take}
use Rattle.edits.proofs.Claims.{invert_base}
use Rattle.edits.proofs.Theorems.{A', B', apply_length, compose_effect, compose_base, compose_built, tp1, base_left, base_right, transform_built, invert_undoes, invert_built}
use Rattle.answers.specs.Given.{given, given_a, given_b}

-- ---- what a call that goes through was given and has written

pub wrote_given : (fault : ℕ) (result out : List ℕ) → T (succeeds (writing fault result out).answer) → (fault ≡ 0) × (given (writing fault result out) ≡ result)
wrote_given fault result out g =
    let w = wrote fault result out g in
    (w.no_fault, ap given w.is ∙ at_front_take result out)

-- a record and a text of base characters
record Fitting (r t : List ℕ) : Type 0 where
  faultless : record_fault r ≡ 0
  well : T (is_well_formed t)
  fits_in : length (chars t) ≡ base (ops r)

fitting : (r t : List ℕ) → base_text_fault r t ≡ 0 → Fitting r t
fitting r t z =
    let (a, b) = first_zero (text_fault r t) _ z in
    let (c, d) = first_zero (record_fault r) _ a in
    let e = (needs_out (is_well_formed t) 2 0 d).0 in
    let n = eqb→eq (number_of_chars t) (base_of r) (needs_out (eqb (number_of_chars t) (base_of r)) 7 0 b).0 in
    record { faultless = c; well = e; fits_in = chars_length t e ∙ n ∙ sym (ops_base r c) }

record Applied (r t out : List ℕ) : Type 0 where
  operands : Fitting r t
  gave : given (apply_call r t out) ≡ bytes (apply (ops r) (chars t))

applied : (r t out : List ℕ) → T (succeeds (apply_call r t out).answer) → Applied r t out
unfolding apply_call
applied r t out g =
    let (z, w) = wrote_given (base_text_fault r t) _ out g in
    record { operands = fitting r t z; gave = w }

-- a record, on a text that was written
apply_text : (r : List ℕ) (t : List Char) (out : List ℕ) → record_fault r ≡ 0 → length t ≡ base (ops r)
    → apply_call r (bytes t) out ≡ writing 0 (bytes (apply (ops r) t)) out
unfolding apply_call
apply_text r t out z l =
    let n : number_of_chars (bytes t) ≡ base_of r = sym (chars_length (bytes t) (bytes_well t)) ∙ ap length (chars_bytes t) ∙ l ∙ ops_base r z in
    λ i. writing
    (or_else (or_else (z i) (needs (holds (is_well_formed (bytes t)) (bytes_well t) i) 3 0)) (needs (holds (eqb (number_of_chars (bytes t)) (base_of r)) (equal_T n) i) 8 0))
    (bytes (apply (ops r) (chars_bytes t i))) out

-- and one that was written itself
pub apply_encoded : (e : Seq) (p : List ℕ) (t : List Char) (out : List ℕ) → Good e → length t ≡ base e
    → apply_call (encode e ++ p) (bytes t) out ≡ writing 0 (bytes (apply e t)) out
apply_encoded e p t out g l =
    apply_text (encode e ++ p) t out (fault_encode e p g) (l ∙ ap base (sym (ops_encode e p))) ∙ ap (λ s. writing 0 (bytes (apply s t)) out) (ops_encode e p)

-- a sequence that a call delivers
delivered : (fault : ℕ) (s : Seq) (out : List ℕ) → T (succeeds (deliver fault s out).answer) → (fault ≡ 0) × T (fits s) × (given (deliver fault s out) ≡ encode s)
unfolding deliver
delivered fault s out g =
    let (z, w) = wrote_given (or_else fault (needs (fits s) 9 0)) (encode s) out g in
    let (a, b) = first_zero fault _ z in
    (a, (needs_out (fits s) 8 0 b).0, w)

-- ---- "TP1: A then B' equals B then A' on every text of base characters."

record Transformed (a b x y : List ℕ) : Type 0 where
  meets : base (ops a) ≡ base (ops b)
  good_left : Good (A' (ops a) (ops b))
  good_right : Good (B' (ops a) (ops b))
  gave_left : given_a (transform_call a b x y) ≡ encode (A' (ops a) (ops b))
  gave_right : given_b (transform_call a b x y) ≡ encode (B' (ops a) (ops b))

transformed : (a b x y : List ℕ) → T (succeeds (transform_call a b x y).answer) → Transformed a b x y
unfolding transform_call
transformed a b x y g =
    let s = transform order (ops a) (ops b) in
    let fit = fits s.left && fits s.right in
    let w = wrote_both (or_else (records_fault a b) (needs (eqb (base_of a) (base_of b)) 8 (needs fit 9 0))) (encode s.left) (encode s.right) x y g in
    let (c, d) = first_zero (records_fault a b) _ w.no_fault in
    let (za, zb) = first_zero (record_fault a) (record_fault b) c in
    let (e, f) = needs_out (eqb (base_of a) (base_of b)) 7 _ d in
    let (l, r) = (both (fits s.left) (fits s.right)).0 (needs_out fit 8 0 f).0 in
    let k = transform_built (ops a) (ops b) in
    record {
      meets = ops_base a za ∙ eqb→eq (base_of a) (base_of b) e ∙ sym (ops_base b zb);
      good_left = record { is_built = k.0; in_limits = l };
      good_right = record { is_built = k.1; in_limits = r };
      gave_left = ap given_a w.is ∙ at_front_take (encode s.left) x;
      gave_right = ap given_b w.is ∙ at_front_take (encode s.right) y;
    }

-- Wherever a and b are transformed, and each is applied to the text: the two ways end alike in any buffer, in the same text or
-- both in a 10. `x`, `y`, `u`, `v` are the buffers lent on the way, `p` and `q` the bytes behind A' and B'.
module _ (a b t x y u v p q : List ℕ) where
  pub tp1_calls : T (succeeds (transform_call a b x y).answer) → T (succeeds (apply_call a t u).answer) → T (succeeds (apply_call b t v).answer) → (out : List ℕ)
      → apply_call (given_b (transform_call a b x y) ++ q) (given (apply_call a t u)) out ≡ apply_call (given_a (transform_call a b x y) ++ p) (given (apply_call b t v)) out
  tp1_calls g h k out =
      let s = transformed a b x y g in
      let A = applied a t u h in
      let B = applied b t v k in
      let e = s.meets in
      let la = apply_length (ops a) (chars t) A.operands.fits_in ∙ sym (base_right (ops a) (ops b) e) in
      let lb = apply_length (ops b) (chars t) B.operands.fits_in ∙ sym (base_left (ops a) (ops b) e) in
      (λ i. apply_call (s.gave_right i ++ q) (A.gave i) out)
      ∙ apply_encoded (B' (ops a) (ops b)) q (apply (ops a) (chars t)) out s.good_right la
      ∙ ap (λ w. writing 0 (bytes w) out) (tp1 (ops a) (ops b) e (chars t) A.operands.fits_in)
      ∙ sym (apply_encoded (A' (ops a) (ops b)) p (apply (ops b) (chars t)) out s.good_left lb)
      ∙ (λ i. apply_call (sym s.gave_left i ++ p) (sym B.gave i) out)

-- so the final texts are equal byte for byte, in whatever buffers
same_given : (r s t u : List ℕ) → ((out : List ℕ) → apply_call r t out ≡ apply_call s u out) → (x y : List ℕ)
    → T (succeeds (apply_call r t x).answer) → T (succeeds (apply_call s u y).answer) → given (apply_call r t x) ≡ given (apply_call s u y)
same_given r s t u e x y g h =
    let k : T (succeeds (apply_call r t y).answer) = rw (e y) h in
    (applied r t x g).gave ∙ sym (applied r t y k).gave ∙ ap given (e y)

module _ (a b t x y u v p q : List ℕ) where
  pub tp1_bytes : T (succeeds (transform_call a b x y).answer) → T (succeeds (apply_call a t u).answer) → T (succeeds (apply_call b t v).answer) → (m n : List ℕ) →
      let ab = apply_call (given_b (transform_call a b x y) ++ q) (given (apply_call a t u)) m in
      let ba = apply_call (given_a (transform_call a b x y) ++ p) (given (apply_call b t v)) n in
      T (succeeds ab.answer) → T (succeeds ba.answer) → given ab ≡ given ba
  tp1_bytes g h k m n = same_given _ _ _ _ (tp1_calls a b t x y u v p q g h k) m n

-- ---- compose: "the built sequence whose effect is the first, then the second"

module _ (a b t x u p : List ℕ) where
  pub compose_calls : T (succeeds (compose_call a b x).answer) → T (succeeds (apply_call a t u).answer) → (out : List ℕ)
      → apply_call (given (compose_call a b x) ++ p) t out ≡ apply_call b (given (apply_call a t u)) out
  unfolding compose_call
  compose_calls g h out =
      let fault = or_else (records_fault a b) (needs (eqb (target_of a) (base_of b)) 8 0) in
      let c = compose (ops a) (ops b) in
      let (z, f, w) = delivered fault c x g in
      let (z₁, z₂) = first_zero (records_fault a b) _ z in
      let (za, zb) = first_zero (record_fault a) (record_fault b) z₁ in
      let m = eqb→eq (target_of a) (base_of b) (needs_out (eqb (target_of a) (base_of b)) 7 0 z₂).0 in
      let e = ops_target a za ∙ m ∙ sym (ops_base b zb) in
      let A = applied a t u h in
      let good : Good c = record { is_built = compose_built (ops a) (ops b); in_limits = f } in
      (λ i. apply_call (w i ++ p) (sym (bytes_chars t A.operands.well) i) out)
      ∙ apply_encoded c p (chars t) out good (A.operands.fits_in ∙ sym (compose_base (ops a) (ops b) e))
      ∙ ap (λ y. writing 0 (bytes y) out) (compose_effect (ops a) (ops b) e (chars t) A.operands.fits_in)
      ∙ sym (apply_text b (apply (ops a) (chars t)) out zb (apply_length (ops a) (chars t) A.operands.fits_in ∙ e))
      ∙ ap (λ y. apply_call b y out) (sym A.gave)

  pub compose_bytes : T (succeeds (compose_call a b x).answer) → T (succeeds (apply_call a t u).answer) → (m n : List ℕ) →
      let one = apply_call (given (compose_call a b x) ++ p) t m in
      let two = apply_call b (given (apply_call a t u)) n in
      T (succeeds one.answer) → T (succeeds two.answer) → given one ≡ given two
  compose_bytes g h m n = same_given _ _ _ _ (compose_calls g h) m n

-- ---- document 02, M-101: "Then apply followed by the inverse returns the text in every case that isn't refused."

-- Apply gives the text `played`, wherever the output has room for it, and `inverse` with any bytes behind it gives of that the text
-- again, byte for byte, wherever the output has room.
pub record Returns (r t inverse : List ℕ) : Type 0 where
  pub played : List ℕ
  pub applies : (out : List ℕ) → apply_call r t out ≡ writing 0 played out
  pub back : (behind out : List ℕ) → apply_call (inverse ++ behind) played out ≡ writing 0 t out

pub invert_returns : (r t x : List ℕ) → T (succeeds (invert_call r t x).answer) → Returns r t (given (invert_call r t x))
unfolding invert_call
invert_returns r t x g =
    let s = invert (ops r) (chars t) in
    let (z, f, w) = delivered (base_text_fault r t) s x g in
    let o = fitting r t z in
    let good : Good s = record { is_built = invert_built (ops r) (chars t); in_limits = f } in
    let whole = bytes_chars t o.well in
    record {
      played = bytes (apply (ops r) (chars t));
      applies = λ out. ap (λ u. apply_call r u out) (sym whole) ∙ apply_text r (chars t) out o.faultless o.fits_in;
      back = λ behind out.
          ap (λ i. apply_call (i ++ behind) (bytes (apply (ops r) (chars t))) out) w
          ∙ apply_encoded s behind (apply (ops r) (chars t)) out good (apply_length (ops r) (chars t) o.fits_in ∙ sym (invert_base (ops r) (chars t)))
          ∙ ap (λ y. writing 0 (bytes y) out) (invert_undoes (ops r) (chars t) o.fits_in)
          ∙ ap (λ y. writing 0 y out) whole;
    }

-- so in whatever buffers apply writes and the inverse writes, they leave the text
pub invert_bytes : (r t x u behind out : List ℕ) → T (succeeds (invert_call r t x).answer) → T (succeeds (apply_call r t u).answer) →
    let back = apply_call (given (invert_call r t x) ++ behind) (given (apply_call r t u)) out in
    T (succeeds back.answer) → given back ≡ t
invert_bytes r t x u behind out g h k =
    let q = invert_returns r t x g in
    let m : given (apply_call r t u) ≡ q.played = ap given (q.applies u) ∙ (wrote_given 0 q.played u (rw (q.applies u) at h)).1 in
    let e = ap (λ y. apply_call (given (invert_call r t x) ++ behind) y out) m ∙ q.back behind out in
    ap given e ∙ (wrote_given 0 t out (rw e at k)).1

-- Where apply gives a text, nothing but 9 and 10 refuses its inverse: as a record, the inverse is delivered.
pub apply_inverts : (r t u : List ℕ) → T (succeeds (apply_call r t u).answer) → (out : List ℕ) → invert_call r t out ≡ deliver 0 (invert (ops r) (chars t)) out
unfolding apply_call invert_call
apply_inverts r t u h out =
    let (z, w) = wrote_given (base_text_fault r t) (bytes (apply (ops r) (chars t))) u h in
    ap (λ f. deliver f (invert (ops r) (chars t)) out) z

-- "Invert now tests that the text has base characters and answers 8 otherwise, after 3": of a record that passes and a well-formed
-- text 8 is the answer exactly where the text has other than base characters, and of one that is ill-formed 3 is, whatever its length.
pub invert_three : (r t out : List ℕ) → record_fault r ≡ 0 → is_well_formed t ≡ false → (invert_call r t out).answer ≡ refused 3
unfolding invert_call deliver
invert_three r t out z w = rw (z, w) refl

-- (9 and 10 are other numbers)
not_eight : (s : Seq) (out : List ℕ) → (deliver 0 s out).answer ≡ refused 8 → ⊥
unfolding deliver writing
not_eight s out = go (fits s) (leb (length (encode s)) (length out))
  where
    found : ℕ → Out
    found k = unless_refused k (λ n. record { answer = refused n; out = out }) (record { answer = success (length (encode s) ∷ []); out = put_at_front (encode s) out })

    go : (f m : Bool) → (found (or_else (or_else 0 (needs f 9 0)) (needs m 10 0))).answer ≡ refused 8 → ⊥
    go false m e = absurd (let y : ◌≡◌ {A = ℕ} 9 8 = cc e in omega arith)
    go true false e = absurd (let y : ◌≡◌ {A = ℕ} 10 8 = cc e in omega arith)
    go true true e = absurd (let y : ◌≡◌ {A = ℕ} 0 1 = cc e in omega arith)

pub invert_eight : (r t out : List ℕ) → record_fault r ≡ 0 → T (is_well_formed t) → ((invert_call r t out).answer ≡ refused 8) ↔ (length (chars t) ≢ base (ops r))
unfolding invert_call
invert_eight r t out z w = (
  λ e l. not_eight s out (rw (z, holds (is_well_formed t) w, holds (eqb (number_of_chars t) (base_of r)) (equal_T (same l))) at e),
  λ h. rw (z, holds (is_well_formed t) w, ne_eqb (number_of_chars t) (base_of r) (λ e. h (chars_length t w ∙ e ∙ sym (ops_base r z)))) refl,
)
  where
    s : Seq
    s = invert (ops r) (chars t)

    same : length (chars t) ≡ base (ops r) → number_of_chars t ≡ base_of r
    same l = sym (chars_length t w) ∙ l ∙ ops_base r z
