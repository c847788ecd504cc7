-- Two results fit into one number: each is at most the size of 256 records.
use Rattle.std.specs.Prelude.{◌≡◌, ℕ, zero, suc, ◌*◌, ◌≤◌, ◌&&◌, T, eqb, ltb, leb, List, [], ◌∷◌, length, drop, Result}
use mathlib.Core.Path.{refl, ap}
use lib.Dec.{le→leb, ltb→lt}
use lib.ListN.{length-append, length-drop}
use native.Mathlib.Omega.{arith}
use Rattle.buffers.specs.Buffers.{put_at_front}
use Rattle.buffers.proofs.Tests.{both}
use Rattle.characters.specs.Order.{order}
use Rattle.edits.specs.Transform.{transform}
use Rattle.edits.specs.Sequence.{Seq}
use Rattle.answers.specs.Answer.{unless_refused, success, refused, needs, or_else, pair_of}
use Rattle.answers.specs.Output.{Outs, writing_both}
use Rattle.answers.proofs.Refusals.{first_zero, needs_out}
use Rattle.record.specs.Layout.{base_of, size_of, max_record}
use Rattle.record.specs.Record.{encode, fits, ops, record_fault}
use Rattle.record.proofs.Records.{encode_small, ops_good}
use Rattle.record.proofs.Sequences.{Good}
use Rattle.operational_transform.specs.Calls.{records_fault, transform_call}
use Rattle.session_log.specs.Log.{encode_all, edits_in, count_of, readable, length_at, revisions, max_revisions}
use Rattle.session_log.proofs.Rows.{Each}
use Rattle.session.specs.Rows.{rebase}
use Rattle.session.specs.Session.{moved_in, accept_fault, append, accept_call, inverse_in, undo_call}
use Rattle.session.proofs.Moving.{rebase_length, rebase_good}
use Rattle.session.proofs.UndoAccepts.{undo_tests, undo_accepts}
use Rattle.packing.specs.Numbers.{small, most}
use Rattle.answers.specs.declared.Refusal.{Refusal}

settled : (f : ℕ) (g : ℕ → Outs) (x : Outs) → ((n : ℕ) → T (small (g n).answer)) → (f ≡ 0 → T (small x.answer)) → T (small (unless_refused f g x).answer)
settled zero g x p q = q refl
settled (suc n) g x p q = p (suc n)

two : (m n : ℕ) → m ≤ most → n ≤ most → T (small (success (m ∷ n ∷ [])))
two m n p q = (both (leb m most) (leb n most)).1 (le→leb m most p, le→leb n most q)

-- ---- transform: two records

writing_small : (fault : ℕ) (p q x y : List ℕ) → (fault ≡ 0 → (length p ≤ most) × (length q ≤ most)) → T (small (writing_both fault p q x y).answer)
unfolding writing_both
writing_small fault p q x y h =
    settled (or_else fault (needs (leb (length p) (length x) && leb (length q) (length y)) 10 0))
    (λ n. record { answer = refused n; out_a = x; out_b = y })
    (record { answer = success (length p ∷ length q ∷ []); out_a = put_at_front p x; out_b = put_at_front q y }) (λ n. tt)
    (λ z. let b = h (first_zero fault _ z).0 in two (length p) (length q) b.0 b.1)

pub transform_small : (a b x y : List ℕ) → T (small (transform_call a b x y).answer)
unfolding transform_call
transform_small a b x y =
    let s = transform order (ops a) (ops b) in
    writing_small
    (or_else (records_fault a b) (needs (eqb (base_of a) (base_of b)) 8 (needs (fits s.left && fits s.right) 9 0)))
    (encode s.left) (encode s.right) x y
    (λ z.
    let (e, z₁) = first_zero (records_fault a b) _ z in
    let (f, z₂) = needs_out (eqb (base_of a) (base_of b)) 7 _ z₁ in
    let (k, z₃) = needs_out (fits s.left && fits s.right) 8 0 z₂ in
    let (l, r) = (both (fits s.left) (fits s.right)).0 k in
    (omega (arith, encode_small s.left l), omega (arith, encode_small s.right r)))

-- ---- accept: a record, and at most 255 counterparts

all_small : (es : List Seq) → Each Good es → length (encode_all es) ≤ max_record * length es
unfolding encode_all
all_small [] h = omega arith
all_small (e ∷ es) h = omega (arith, length-append (encode e) (encode_all es), encode_small e h.0.in_limits, all_small es h.1)

edits_length : (n : ℕ) (l : List ℕ) → length (edits_in n l) ≡ n
unfolding edits_in
edits_length zero l = refl
edits_length (suc n) l = ap suc (edits_length n (drop (size_of l) l))

pub accept_small : (edit : List ℕ) (r : ℕ) (log out : List ℕ) → T (small (accept_call edit r log out).answer)
unfolding accept_call accept_fault moved_in revisions
accept_small edit r log out =
    let vs = drop r (revisions log) in
    let m = rebase (ops edit) vs in
    settled (accept_fault edit r log out) (λ n. record { answer = refused n; out_a = log; out_b = out })
    (record { answer = success (length (encode m.edit) ∷ length (encode_all m.counterparts) ∷ []); out_a = append log (encode m.edit); out_b = put_at_front (encode_all m.counterparts) out })
    (λ n. tt)
    (λ z.
    let (a, z₁) = first_zero (record_fault edit) _ z in
    let (b, z₂) = needs_out (readable log) 5 _ z₁ in
    let (c, z₃) = needs_out (leb r (count_of log)) 6 _ z₂ in
    let (d, z₄) = needs_out (eqb (base_of edit) (length_at r log)) 7 _ z₃ in
    let (e, z₅) = needs_out (ltb (count_of log) max_revisions && m.kept) 8 _ z₄ in
    let (f, k) = (both (ltb (count_of log) max_revisions) m.kept).0 e in
    let g = rebase_good (ops edit) vs (ops_good edit a) k in
    two (length (encode m.edit)) (length (encode_all m.counterparts)) (omega (arith, encode_small m.edit g.0.in_limits))
    (omega
    (arith, all_small m.counterparts g.1, rebase_length (ops edit) vs, length-drop r (revisions log), edits_length (count_of log) (drop 4 log), ltb→lt (count_of log) 256 f)))

-- ---- undo: a refusal, or what accept gives for the inverse

pub undo_small : (log : List ℕ) (k : ℕ) (text : List ℕ) (x y : ℕ) (out : List ℕ) → T (small (undo_call log k text x y out).answer)
undo_small log k text x y out =
    let inverse = encode (inverse_in log k text) in
    rw (undo_accepts log k text x y out)
    (settled (undo_tests log k text x y) (λ n. record { answer = refused n; out_a = log; out_b = out }) (accept_call inverse k log out) (λ n. tt)
    (λ z. accept_small inverse k log out))

-- ---- as the code finds it

module _ (x : Result (ℕ × ℕ) Refusal) where
  pub transform_fits : (a b o p : List ℕ) → pair_of x ≡ (transform_call a b o p).answer → T (small (pair_of x))
  transform_fits a b o p e = rw e (transform_small a b o p)

  pub accept_fits : (edit : List ℕ) (r : ℕ) (log out : List ℕ) → pair_of x ≡ (accept_call edit r log out).answer → T (small (pair_of x))
  accept_fits edit r log out e = rw e (accept_small edit r log out)

  pub undo_fits : (log : List ℕ) (k : ℕ) (text : List ℕ) (a b : ℕ) (out : List ℕ) → pair_of x ≡ (undo_call log k text a b out).answer → T (small (pair_of x))
  undo_fits log k text a b out e = rw e (undo_small log k text a b out)
