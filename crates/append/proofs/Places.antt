-- The revisions behind revision r of a log that can be read.
use Rattle.std.specs.Prelude.{◌≡◌, ℕ, zero, suc, ◌-◌, ◌*◌, ◌^◌, ◌≤◌, List, length, drop}
use native.Mathlib.Omega.{arith}
use native.Mathlib.Nat.{sub-zero}
use mathlib.Core.Path.{sym, subst, subst₂, ap, ap₂, ◌∙◌}
use lib.Seq.{drop-drop}
use Rattle.record.specs.Layout.{size_of, target_of, max_record}
use Rattle.record.proofs.Faults.{limits, faultless}
use Rattle.session_log.specs.Log.{sizes_in, length_in, edits_in, count_of, start_of, records_start, place_of, size_of_log, length_at, revisions}
use Rattle.session_log.specs.declared.inner.Scan.{Scan}
use Rattle.session_log.specs.InnerScan.{Found}
use Rattle.session_log.proofs.Scanning.{reads, drop_place, place_inside}
use Rattle.counterparts.specs.InnerRunning.{RecordsFollow}
use Rattle.counterparts.proofs.Following.{lie_first, lie_rest}

-- ---- records that stand end to end

small : (n len : ℕ) (m : List ℕ) → RecordsFollow n len m → sizes_in n m ≤ max_record * n
small zero len m h = omega arith
small (suc n) len m h =
    let f = (limits m).0 ((faultless m).0 (lie_first (suc n) len m (λ z. absurd (omega (arith, z))) h).0).in_limits in
    omega (arith, f.ops, f.text_bytes, small n (target_of m) (drop (size_of m) m) (lie_rest n len m h))

lie_behind : (r n len : ℕ) (m : List ℕ) → r ≤ n → RecordsFollow n len m → RecordsFollow (n - r) (length_in r len m) (drop (sizes_in r m) m)
lie_behind zero n len m h l = subst (λ k. RecordsFollow k len m) (sym (sub-zero n)) l
lie_behind (suc r) zero len m h l = absurd (omega arith)
lie_behind (suc r) (suc n) len m h l =
    subst₂ (λ k d. RecordsFollow k (length_in (suc r) len m) d) (omega arith) (drop-drop (sizes_in r (drop (size_of m) m)) (size_of m) m) (lie_behind r n (target_of m) (drop (size_of m) m) (omega arith) (lie_rest n len m l))

edits_behind : (r n : ℕ) (m : List ℕ) → r ≤ n → edits_in (n - r) (drop (sizes_in r m) m) ≡ drop r (edits_in n m)
unfolding edits_in
edits_behind zero n m h = ap (λ k. edits_in k m) (sub-zero n)
edits_behind (suc r) zero m h = absurd (omega arith)
edits_behind (suc r) (suc n) m h =
    let e : suc n - suc r ≡ n - r = omega arith in
    ap₂ edits_in e (sym (drop-drop (sizes_in r (drop (size_of m) m)) (size_of m) m)) ∙ edits_behind r n (drop (size_of m) m) (omega arith)

-- ---- a log that can be read

module _ (l : List ℕ) (r : ℕ) (s : Scan) (f : Found l r s) where
  all_lie : RecordsFollow (count_of l) (start_of l) (drop records_start l)
  all_lie = record { reads = (reads l f.reads).records }

  pub log_small : s.size ≤ 2 ^ 50
  unfolding size_of_log place_of
  log_small = omega (arith, f.size, f.few, f.count, small (count_of l) (start_of l) (drop records_start l) all_lie)

  module _ (h : r ≤ count_of l) (n : ℕ) (e : n ≡ count_of l - r) where
    from_is : drop s.at l ≡ drop (sizes_in r (drop records_start l)) (drop records_start l)
    from_is = ap (λ k. drop k l) (f.place h) ∙ drop_place r l

    pub from_inside : s.at ≤ length l
    from_inside = omega (arith, f.place h, place_inside l f.reads r h)

    pub lie_from : (len : ℕ) → len ≡ length_at r l → RecordsFollow n len (drop s.at l)
    unfolding length_at
    lie_from len p = subst (λ k. RecordsFollow n k (drop s.at l)) (sym p) (subst₂ (λ k d. RecordsFollow k (length_at r l) d) (sym e) (sym from_is) (lie_behind r (count_of l) (start_of l) (drop records_start l) h all_lie))

    pub edits_from : edits_in n (drop s.at l) ≡ drop r (revisions l)
    unfolding revisions
    edits_from = ap₂ edits_in e from_is ∙ edits_behind r (count_of l) (drop records_start l) h

    pub few_from : n ≤ 256
    few_from = omega (arith, e, f.few, f.count)
