-- A record behind the log's contents, and the edit's own bytes.
use Rattle.std.specs.Prelude.{◌≡◌, ℕ, suc, ◌+◌, ◌-◌, ◌/◌, ◌%◌, ◌≤◌, List, [], ◌∷◌, ◌++◌, length, take, drop}
use native.Mathlib.Omega.{arith}
use mathlib.Core.Path.{sym, ap, ◌∙◌, refl, subst}
use mathlib.Core.List.{append_assoc}
use lib.Seq.{length-take-le, drop-drop}
use Rattle.buffers.specs.Words.{words}
use Rattle.buffers.specs.InnerOver.{over, bytes16}
use Rattle.buffers.specs.Buffers.{put_at_front}
use Rattle.buffers.proofs.Over.{over_front, over_at, length_over}
use Rattle.record.specs.Layout.{size_of}
use Rattle.record.specs.Record.{encode, ops, record_fault}
use Rattle.record.proofs.Faults.{limits, faultless}
use Rattle.record.proofs.Records.{Bytes, encode_ops, ops_good}
use Rattle.session_log.specs.declared.inner.Scan.{Scan}
use Rattle.session_log.specs.Log.{count_of, place_of, size_of_log, encode_all, revisions}
use Rattle.session_log.proofs.Scanning.{revisions_end}
use Rattle.session.specs.Session.{append}
use Rattle.session.specs.Rows.{rebase}
use Rattle.counterparts.specs.InnerRunning.{Holds, Rebased, HandsOut}
use Rattle.counterparts.proofs.Passing.{front_holds}
use Rattle.append.specs.InnerAccepting.{MovedPast}

pub appends : (log : List ℕ) (s : Scan) (rec : List ℕ) (size : ℕ) → s.count ≡ count_of log → s.count ≤ 256 → s.size ≡ size_of_log log → size ≤ length rec → s.size + size ≤ length log → (l₁ l₂ : List ℕ)
    → l₁ ≡ over s.size (take (size - 0) (drop 0 rec)) log → l₂ ≡ over 0 (bytes16 (s.count + 1)) l₁ → l₂ ≡ append log (take size rec)
unfolding append put_at_front size_of_log place_of
appends log s rec size pc few ps fits room l₁ l₂ p q =
    let R = take size rec in
    let n : length R ≡ size = length-take-le size rec fits in
    let k : size - 0 ≡ size = omega arith in
    let a : l₁ ≡ take s.size log ++ R ++ drop (s.size + length R) log =
    p ∙ ap (λ i. over s.size (take i rec) log) k ∙ over_at s.size R log (omega (arith, n, room)) in
    let b : l₁ ≡ take (size_of_log log) log ++ put_at_front R (drop (size_of_log log) log) =
    a ∙ ap (λ i. take i log ++ R ++ drop (i + length R) log) ps ∙ append_assoc (take (size_of_log log) log) R _ ∙ ap (λ x. take (size_of_log log) log ++ (R ++ x)) (sym (drop-drop (length R) (size_of_log log) log)) in
    let w : bytes16 (s.count + 1) ≡ words (suc (count_of log) ∷ []) =
    let i : s.count + 1 ≡ suc (count_of log) = omega (arith, pc) in
    let j : (s.count + 1) / 256 % 256 ≡ (s.count + 1) / 256 = omega (arith, few) in
    ap (λ k. (s.count + 1) % 256 ∷ k ∷ []) j ∙ ap (λ k. k % 256 ∷ k / 256 ∷ []) i in
    q ∙ ap (λ u. over 0 u l₁) w ∙ over_front (words (suc (count_of log) ∷ [])) l₁ (omega (arith, ap length p ∙ length_over s.size _ log, ps, room)) ∙ ap (put_at_front (words (suc (count_of log) ∷ []))) b

-- ---- the edit's own bytes

module _ (edit : List ℕ) (b : Bytes edit) (z : record_fault edit ≡ 0) where
  pub edit_holds : Holds (ops edit) edit
  edit_holds = record { fault = z; edit = refl; bytes_are = sym (encode_ops edit z b) }

  pub lays : (cur cur' : List ℕ) (size : ℕ) → size_of edit ≤ length cur → size ≡ size_of edit → cur' ≡ over 0 (take (size - 0) (drop 0 edit)) cur → Holds (ops edit) cur'
  lays cur cur' size room ps e =
      let h = (limits edit).0 ((faultless edit).0 z).in_limits in
      let k : size - 0 ≡ size_of edit = omega (arith, ps) in
      let t : take (size - 0) (drop 0 edit) ≡ encode (ops edit) = ap (λ i. take i edit) k ∙ sym (encode_ops edit z b) in
      let l : length (encode (ops edit)) ≡ size_of edit = ap length (encode_ops edit z b) ∙ length-take-le (size_of edit) edit h.whole in
      subst (Holds (ops edit)) (sym (e ∙ ap (λ u. over 0 u cur) t ∙ over_front (encode (ops edit)) cur (omega (arith, l, h.ops, h.text_bytes, room)))) (front_holds (ops edit) cur (ops_good edit z))

  -- against the newest revision nothing is passed
  module _ (r : ℕ) (log : List ℕ) (e : r ≡ count_of log) where
    pub newest_moved : MovedPast edit r log 0 edit
    unfolding rebase encode_all
    newest_moved = record { moved = subst (λ vs. Rebased (ops edit) vs 0 edit) (sym (revisions_end r log e)) (record { kept = refl; bytes_are = refl; holds = edit_holds }) }

    pub newest_hands : (out : List ℕ) → HandsOut (ops edit) (drop r (revisions log)) out edit out
    unfolding rebase encode_all put_at_front
    newest_hands out = subst (λ vs. HandsOut (ops edit) vs out edit out) (sym (revisions_end r log e)) (record { holds = edit_holds; given = refl })
