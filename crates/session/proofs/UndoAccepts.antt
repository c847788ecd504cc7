-- An undo is an accept of the inverse: after its own tests, undo gives what accept gives for the inverse's record against k.
use Prim.Native.Nat.{ℕ, zero, suc, ◌-◌, ◌≤◌}
use native.Mathlib.Omega.{arith}
use mathlib.Core.Path.{◌≡◌, refl, sym, ap, ◌∙◌}
use mathlib.Core.Bool.{◌&&◌}
use mathlib.Core.List.{List, [], append-nil}
use lib.Dec.{T, leb, eqb, leb→le, le→leb}
use lib.ListN.{length, take, drop, get_or}
use lib.Seq.{drop-cons}
use Rattle.characters.specs.Form.{is_well_formed}
use Rattle.characters.specs.Chars.{number_of_chars}
use Rattle.characters.specs.Text.{chars}
use Rattle.buffers.proofs.Tests.{both, equal_T}
use Rattle.answers.specs.Answer.{or_else, needs, refused, unless_refused}
use Rattle.record.specs.Layout.{base_of}
use Rattle.edits.specs.Op.{base, target}
use Rattle.edits.specs.Sequence.{Seq}
use Rattle.record.specs.Record.{encode, fits, ops, record_fault}
use Rattle.record.proofs.Sequences.{Good}
use Rattle.record.proofs.Records.{ops_encode, fault_encode, ops_base, ops_target}
use Rattle.answers.proofs.Refusals.{needs_out, needs_in}
use Rattle.answers.specs.Output.{Outs}
use Rattle.edits.proofs.Claims.{invert_built, invert_base}
use Rattle.session_log.specs.Log.{count_of, start_of, readable, length_at, place_of, revisions}
use Rattle.session_log.proofs.Scanning.{revision, revisions_length}
use Rattle.session.specs.Rows.{play_all, longest, rebase}
use Rattle.session.specs.Session.{moved_in, join_fault, accept_fault, joining, accept_call, inverse_in, moved_inverse, undo_fault, undo_call}
use Rattle.session.proofs.Undoing.{chain, settle_first}

-- an undo's own tests: those of `undo_fault` before what accept tests as well
unfoldable pub undo_tests : List ℕ → ℕ → List ℕ → ℕ → ℕ → ℕ
unfolding readable revisions chars fits inverse_in
undo_tests log k text scratch_a scratch_b =
    let need = longest (take (k - 1) (revisions log)) (chars text) in
    needs (is_well_formed text) 3
    (needs (readable log) 6
    (needs (leb 1 k && leb k (count_of log)) 7
    (needs (eqb (number_of_chars text) (start_of log)) 8
    (needs (leb need scratch_a && leb need scratch_b) 10 (needs (fits (inverse_in log k text)) 9 0)))))

module _ (log : List ℕ) (text : List ℕ) where
  -- the inverse's base is the length after revision k
  pub base_inverse : (k : ℕ) → T (readable log) → 1 ≤ k → k ≤ count_of log → base (inverse_in log k text) ≡ length_at k log
  unfolding inverse_in
  base_inverse zero r o l = absurd (omega arith)
  base_inverse (suc j) r o l =
      let p : suc j - 1 ≡ j = omega arith in
      let es = revisions log in
      let v = revision log r j (place_of j log) l refl in
      let rec = take (length log - place_of j log) (drop (place_of j log) log) in
      let n = revisions_length log in
      let c = drop-cons es j [] (omega arith) in
      let e : get_or es j [] ≡ ops rec = cc (c, v.edits) in
      invert_base (get_or es (suc j - 1) []) _ ∙ ap (λ i. target (get_or es i [])) p ∙ ap target e ∙ ops_target rec v.faultless ∙ v.target
      ∙ ap (λ i. length_at i log) (omega arith)

  module _ (k : ℕ) (out : List ℕ) (r : T (readable log)) (o : 1 ≤ k) (l : k ≤ count_of log) (f : T (fits (inverse_in log k text))) where
    abbrev e : Seq
    e = inverse_in log k text

    read : ops (encode e) ≡ e
    read = ap ops (sym (append-nil (encode e))) ∙ ops_encode e []

    faultless : record_fault (encode e) ≡ 0
    unfolding inverse_in
    faultless =
        let es = revisions log in
        let good : Good e =
        record { is_built = invert_built (get_or es (k - 1) []) (play_all (take (k - 1) es) (chars text)); in_limits = f } in
        ap record_fault (sym (append-nil (encode e))) ∙ fault_encode e [] good

    moves : moved_in (encode e) k log ≡ moved_inverse log k text
    unfolding moved_in moved_inverse
    moves = ap (λ x. rebase x (drop k (revisions log))) read

    joins : accept_fault (encode e) k log out ≡ join_fault (moved_inverse log k text) log out
    unfolding accept_fault
    joins =
        let b : base_of (encode e) ≡ length_at k log = sym (ops_base (encode e) faultless) ∙ ap base read ∙ base_inverse k r o l in
        let x = join_fault (moved_inverse log k text) log out in
        (λ i.
        or_else (faultless i)
        (needs (readable log) 6
        (needs (leb k (count_of log)) 7 (needs (eqb (base_of (encode e)) (length_at k log)) 8 (join_fault (moves i) log out)))))
        ∙ needs_in (readable log) 6 (needs (leb k (count_of log)) 7 (needs (eqb (base_of (encode e)) (length_at k log)) 8 x)) r
        ∙ needs_in (leb k (count_of log)) 7 (needs (eqb (base_of (encode e)) (length_at k log)) 8 x) (le→leb k _ l)
        ∙ needs_in (eqb (base_of (encode e)) (length_at k log)) 8 x (equal_T b)

abbrev stop : List ℕ → List ℕ → ℕ → Outs
stop log out n = record { answer = refused n; out_a = log; out_b = out }

pub undo_accepts : (log : List ℕ) (k : ℕ) (text : List ℕ) (scratch_a scratch_b : ℕ) (out : List ℕ)
    → undo_call log k text scratch_a scratch_b out
    ≡ unless_refused (undo_tests log k text scratch_a scratch_b) (stop log out) (accept_call (encode (inverse_in log k text)) k log out)
unfolding undo_call undo_fault undo_tests accept_call
undo_accepts log k text scratch_a scratch_b out =
    let need = longest (take (k - 1) (revisions log)) (chars text) in
    let m = moved_inverse log k text in
    ap (λ x. joining x m log out)
    (chain (is_well_formed text) (readable log) (leb 1 k && leb k (count_of log)) (eqb (number_of_chars text) (start_of log))
    (leb need scratch_a && leb need scratch_b) (fits (inverse_in log k text)) (join_fault m log out))
    ∙ sym (settle_first (undo_tests log k text scratch_a scratch_b) (join_fault m log out) (stop log out) _ _ (λ z.
    let (w, z₁) = needs_out (is_well_formed text) 2 _ z in
    let (r, z₂) = needs_out (readable log) 5 _ z₁ in
    let (l, z₃) = needs_out (leb 1 k && leb k (count_of log)) 6 _ z₂ in
    let (s, z₄) = needs_out (eqb (number_of_chars text) (start_of log)) 7 _ z₃ in
    let (n, z₅) = needs_out (leb need scratch_a && leb need scratch_b) 9 _ z₄ in
    let (f, z₆) = needs_out (fits (inverse_in log k text)) 8 _ z₅ in
    let (l₁, l₂) = (both (leb 1 k) (leb k (count_of log))).0 l in
    let o = leb→le 1 k l₁ in
    let c = leb→le k _ l₂ in
    λ i. joining (joins log text k out r o c f i) (moves log text k out r o c f i) log out))
