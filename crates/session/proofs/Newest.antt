-- An edit against the newest revision: its own bytes are appended, and there is no counterpart.
use Prim.Native.Nat.{ℕ, ◌+◌, zero, suc}
use mathlib.Core.List.{List, [], ◌∷◌}
use lib.Dec.{leb, ltb, eqb, le→leb, leb-zero}
use lib.ListN.{length, take, drop}
use mathlib.Core.Path.{◌≡◌, refl, sym, ap, ◌∙◌}
use native.Mathlib.Omega.{arith}
use mathlib.Core.Bool.{true, ◌&&◌, and-true}
use lib.Seq.{drop-length, length-take-le}
use Rattle.buffers.specs.Buffers.{put_at_front}
use Rattle.buffers.proofs.Tests.{holds}
use Rattle.answers.specs.Answer.{or_else, needs, unless_refused, success, refused}
use Rattle.answers.specs.Output.{Outs}
use Rattle.answers.proofs.Refusals.{first_zero}
use Rattle.record.specs.Layout.{size_of, base_of}
use Rattle.record.specs.Record.{record_fault, encode, ops}
use Rattle.record.proofs.Faults.{limits, faultless}
use Rattle.record.proofs.Records.{Bytes, encode_ops}
use Rattle.session_log.specs.Log.{count_of, readable, size_of_log, length_at, encode_all, revisions, max_revisions}
use Rattle.session_log.proofs.Scanning.{revisions_length}
use Rattle.session.specs.Rows.{Moved, rebase}
use Rattle.session.specs.Session.{moved_in, accept_fault, append, accept_call}
use Rattle.session.proofs.Accepting.{sizes, first_same}

-- what is left to test
unfoldable pub newest_fault : (edit log : List ℕ) → ℕ
unfolding record_fault readable length_at size_of_log
newest_fault edit log =
    or_else (record_fault edit)
    (needs (readable log) 6
    (needs (eqb (base_of edit) (length_at (count_of log) log)) 8
    (needs (ltb (count_of log) max_revisions) 9 (needs (leb (size_of_log log + size_of edit) (length log)) 10 0))))

settle_same : {A : Type 0} (f : ℕ) (stop : ℕ → A) (x y : A) → (f ≡ 0 → x ≡ y) → unless_refused f stop x ≡ unless_refused f stop y
settle_same zero stop x y e = e refl
settle_same (suc f) stop x y e = refl

module _ (edit log out : List ℕ) (b : Bytes edit) where
  abbrev r : ℕ
  r = count_of log

  abbrev unmoved : Moved
  unmoved = record { edit = ops edit; counterparts = []; kept = true }

  moved_newest : moved_in edit r log ≡ unmoved
  unfolding moved_in rebase
  moved_newest = ap (rebase (ops edit)) (ap (λ n. drop n (revisions log)) (sym (revisions_length log)) ∙ drop-length (revisions log))

  size_newest : record_fault edit ≡ 0 → length (encode (ops edit)) ≡ size_of edit
  size_newest z = ap length (encode_ops edit z b) ∙ length-take-le (size_of edit) edit ((limits edit).0 ((faultless edit).0 z).in_limits).whole

  fault_newest : accept_fault edit r log out ≡ newest_fault edit log
  unfolding accept_fault newest_fault encode_all
  fault_newest =
      let n = length (encode (ops edit)) in
      (λ i.
      let m = moved_newest i in
      or_else (record_fault edit)
      (needs (readable log) 6
      (needs (holds (leb r r) (le→leb r r (omega arith)) i) 7
      (needs (eqb (base_of edit) (length_at r log)) 8
      (needs (ltb r max_revisions && m.kept) 9
      (needs (leb (size_of_log log + length (encode m.edit)) (length log) && leb (length (encode_all m.counterparts)) (length out)) 10 0))))))
      ∙ (λ i.
      let room = leb (size_of_log log + n) (length log) in
      or_else (record_fault edit)
      (needs (readable log) 6
      (needs (eqb (base_of edit) (length_at r log)) 8
      (needs (and-true (ltb r max_revisions) i) 9 (needs ((ap (λ x. room && x) (leb-zero (length out)) ∙ and-true room) i) 10 0)))))
      ∙ first_same (record_fault edit) _ _ (λ z.
      ap (λ n.
      needs (readable log) 6
      (needs (eqb (base_of edit) (length_at r log)) 8 (needs (ltb r max_revisions) 9 (needs (leb (size_of_log log + n) (length log)) 10 0))))
      (size_newest z))

  abbrev stop : ℕ → Outs
  stop n = record { answer = refused n; out_a = log; out_b = out }

  pub accept_newest : accept_call edit r log out
      ≡ unless_refused (newest_fault edit log) stop (record { answer = success (size_of edit ∷ 0 ∷ []); out_a = append log (take (size_of edit) edit); out_b = out })
  unfolding accept_call newest_fault encode_all put_at_front
  accept_newest =
      (λ i.
      let m = moved_newest i in
      unless_refused (fault_newest i) stop
      (record { answer = sizes m; out_a = append log (encode m.edit); out_b = put_at_front (encode_all m.counterparts) out }))
      ∙ settle_same (newest_fault edit log) stop _ _ (λ z.
      let z₀ = (first_zero (record_fault edit) _ z).0 in
      λ i. record { answer = success (size_newest z₀ i ∷ 0 ∷ []); out_a = append log (encode_ops edit z₀ b i); out_b = out })
