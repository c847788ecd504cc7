-- Going through a log, record by record.
use Rattle.std.specs.Prelude.{◌≡◌, ℕ, zero, suc, ◌+◌, ◌-◌, ◌<◌, ◌≤◌, Bool, true, false, cond, T, eqb, List, [], ◌∷◌, length, take, drop, Result, Option, Ok, Err, Some, None}
use native.Mathlib.Omega.{arith}
use mathlib.Core.Path.{sym, ap, refl, ◌∙◌, ap₂}
use lib.ListN.{length-drop}
use lib.Seq.{take_all, drop-drop, drop-length}
use native.Mathlib.Numerals.{add-one}
use borrow.Author.Tests.{ne_eqb, eq-eqb, le-leb, lt-leb, eqb-true, eqb-false}
use native.Mathlib.Nat.{sub-zero}
use Rattle.buffers.proofs.Tests.{eq_and, le_and, known}
use Rattle.answers.specs.declared.Refusal.{Refusal}
use Rattle.answers.specs.Answer.{answer_of}
use Rattle.record.specs.Layout.{size_of, target_of, base_of, max_size}
use Rattle.record.specs.Record.{ops, record_fault}
use Rattle.record.specs.Calls.{check_call}
use Rattle.record.proofs.Faults.{faultless, limits}
use Rattle.record.proofs.Checked.{passed, stopped as check-stopped}
use Rattle.operation.proofs.Answers.{no_fault}
use Rattle.session_log.specs.Log.{sizes_in, length_in, edits_in, readable_from, count_of, start_of, records_start, readable, place_of, length_at, revisions, size_of_log, max_revisions}
use Rattle.session_log.specs.declared.inner.Spot.{Spot}
use Rattle.session_log.specs.InnerSteps.{Steps, stop, on, Passing, Past}
use Rattle.session_log.specs.InnerScan.{Scans, Found}

-- ---- records that stand end to end

-- a part that goes to the end
pub to_end : (l : List ℕ) (at : ℕ) → take (length l - at) (drop at l) ≡ drop at l
to_end l at = take_all (length l - at) (drop at l) (omega (arith, length-drop at l))

-- the rest behind k + 1 records is the rest behind k records of the rest behind one
sizes_drop : (k : ℕ) (m : List ℕ) → drop (sizes_in (suc k) m) m ≡ drop (sizes_in k (drop (size_of m) m)) (drop (size_of m) m)
sizes_drop k m = sym (drop-drop (sizes_in k (drop (size_of m) m)) (size_of m) m)

sizes_next : (k : ℕ) (m : List ℕ) → sizes_in (suc k) m ≡ sizes_in k m + size_of (drop (sizes_in k m) m)
sizes_next zero m = omega arith
sizes_next (suc k) m = omega (arith, sizes_next k (drop (size_of m) m), ap size_of (sizes_drop k m))

length_next : (k len : ℕ) (m : List ℕ) → length_in (suc k) len m ≡ target_of (drop (sizes_in k m) m)
length_next zero len m = refl
length_next (suc k) len m = length_next k (target_of m) (drop (size_of m) m) ∙ ap target_of (sym (sizes_drop k m))

pub edits_length : (n : ℕ) (m : List ℕ) → length (edits_in n m) ≡ n
unfolding edits_in
edits_length zero m = refl
edits_length (suc n) m = ap suc (edits_length n (drop (size_of m) m))

edits_drop : (n k : ℕ) (m : List ℕ) → k < n → drop k (edits_in n m) ≡ ops (drop (sizes_in k m) m) ∷ drop (suc k) (edits_in n m)
unfolding edits_in
edits_drop zero k m h = absurd (omega arith)
edits_drop (suc n) zero m h = refl
edits_drop (suc n) (suc k) m h =
    edits_drop n k (drop (size_of m) m) (omega arith) ∙ ap (λ r. ops r ∷ drop (suc k) (edits_in n (drop (size_of m) m))) (sym (sizes_drop k m))

record Head (n len : ℕ) (m : List ℕ) : Type 0 where
  faultless : record_fault m ≡ 0
  base : base_of m ≡ len
  rest : T (readable_from n (target_of m) (drop (size_of m) m))

head : (n len : ℕ) (m : List ℕ) → T (readable_from (suc n) len m) → Head n len m
unfolding readable_from
head n len m h =
    let (a, h₁) = (eq_and (record_fault m) 0 _).0 h in
    let (b, h₂) = (eq_and (base_of m) len _).0 h₁ in
    record { faultless = a; base = b; rest = h₂ }

-- behind k records
record Behind (k n len : ℕ) (m : List ℕ) : Type 0 where
  faultless : record_fault (drop (sizes_in k m) m) ≡ 0
  base : base_of (drop (sizes_in k m) m) ≡ length_in k len m

behind : (n k len : ℕ) (m : List ℕ) → k < n → T (readable_from n len m) → Behind k n len m
behind zero k len m h r = absurd (omega arith)
behind (suc n) zero len m h r = let a = head n len m r in record { faultless = a.faultless; base = a.base }
behind (suc n) (suc k) len m h r =
    let b = behind n k (target_of m) (drop (size_of m) m) (omega arith) (head n len m r).rest in
    record { faultless = ap record_fault (sizes_drop k m) ∙ b.faultless; base = ap base_of (sizes_drop k m) ∙ b.base }

sizes_room : (n k len : ℕ) (m : List ℕ) → k ≤ n → T (readable_from n len m) → sizes_in k m ≤ length m
sizes_room n zero len m h r = omega arith
sizes_room zero (suc k) len m h r = absurd (omega arith)
sizes_room (suc n) (suc k) len m h r =
    let a = head n len m r in
    omega (arith, (no_fault m a.faultless).room, sizes_room n k (target_of m) (drop (size_of m) m) (omega arith) a.rest, length-drop (size_of m) m)

-- ---- a log that can be read

pub record Reads (l : List ℕ) : Type 0 where
  pub header : 4 ≤ length l
  pub few : count_of l ≤ max_revisions
  pub short : start_of l ≤ max_size
  pub records : T (readable_from (count_of l) (start_of l) (drop records_start l))

pub reads : (l : List ℕ) → T (readable l) → Reads l
unfolding readable
reads l h =
    let (a, h₁) = (le_and 4 (length l) _).0 h in
    let (b, h₂) = (le_and (count_of l) 256 _).0 h₁ in
    let (c, h₃) = (le_and (start_of l) max_size _).0 h₂ in
    record { header = a; few = b; short = c; records = h₃ }

pub place_start : (l : List ℕ) → place_of 0 l ≡ 4
unfolding place_of
place_start l = refl

pub length_start : (l : List ℕ) → length_at 0 l ≡ start_of l
unfolding length_at
length_start l = refl

pub drop_place : (k : ℕ) (l : List ℕ) → drop (place_of k l) l ≡ drop (sizes_in k (drop records_start l)) (drop records_start l)
unfolding place_of
drop_place k l = sym (drop-drop (sizes_in k (drop records_start l)) records_start l)

pub place_next : (k : ℕ) (l : List ℕ) → place_of (k + 1) l ≡ place_of k l + size_of (drop (place_of k l) l)
unfolding place_of
place_next k l = rw (add-one k) (omega (arith, sizes_next k (drop records_start l), ap size_of (drop_place k l)))

pub target_at : (k : ℕ) (l : List ℕ) → target_of (drop (place_of k l) l) ≡ length_at (k + 1) l
unfolding length_at
target_at k l = ap target_of (drop_place k l) ∙ sym (rw (add-one k) (length_next k (start_of l) (drop records_start l)))

pub revisions_length : (l : List ℕ) → length (revisions l) ≡ count_of l
unfolding revisions
revisions_length l = edits_length (count_of l) (drop records_start l)

pub revisions_end : (k : ℕ) (l : List ℕ) → k ≡ count_of l → drop k (revisions l) ≡ []
revisions_end k l e = ap (λ n. drop n (revisions l)) (e ∙ sym (revisions_length l)) ∙ drop-length (revisions l)

pub revision_at : (k : ℕ) (l : List ℕ) → k < count_of l → drop k (revisions l) ≡ ops (drop (place_of k l) l) ∷ drop (k + 1) (revisions l)
unfolding revisions
revision_at k l h = rw (add-one k) (edits_drop (count_of l) k (drop records_start l) h ∙ ap (λ m. ops m ∷ drop (suc k) (revisions l)) (sym (drop_place k l)))

module _ (l : List ℕ) (r : T (readable l)) where
  pub place_inside : (k : ℕ) → k ≤ count_of l → place_of k l ≤ length l
  unfolding place_of
  place_inside k h =
      let a = reads l r in
      omega (arith, a.header, sizes_room (count_of l) k (start_of l) (drop records_start l) h a.records, length-drop records_start l)

  module _ (k : ℕ) (h : k < count_of l) where
    there : Behind k (count_of l) (start_of l) (drop records_start l)
    there = behind (count_of l) k (start_of l) (drop records_start l) h (reads l r).records

    pub record_at : record_fault (drop (place_of k l) l) ≡ 0
    record_at = ap record_fault (drop_place k l) ∙ there.faultless

    pub base_at : base_of (drop (place_of k l) l) ≡ length_at k l
    unfolding length_at
    base_at = ap base_of (drop_place k l) ∙ there.base

-- the record of revision k + 1, as a part of the log from its place to the end
pub record Revision (l : List ℕ) (k at : ℕ) (rec : List ℕ) : Type 0 where
  pub faultless : record_fault rec ≡ 0
  pub base : base_of rec ≡ length_at k l
  pub target : target_of rec ≡ length_at (k + 1) l
  pub next : at + size_of rec ≡ place_of (k + 1) l
  pub inside : at + size_of rec ≤ length l
  pub edits : drop k (revisions l) ≡ ops rec ∷ drop (k + 1) (revisions l)

pub revision : (l : List ℕ) → T (readable l) → (k at : ℕ) → k < count_of l → at ≡ place_of k l → Revision l k at (take (length l - at) (drop at l))
revision l r k at h e =
    let p : take (length l - at) (drop at l) ≡ drop (place_of k l) l = to_end l at ∙ ap (λ i. drop i l) e in
    let n : place_of (k + 1) l ≡ at + size_of (take (length l - at) (drop at l)) = place_next k l ∙ ap₂ (λ i m. i + size_of m) (sym e) (sym p) in
    record {
      faultless = ap record_fault p ∙ record_at l r k h;
      base = ap base_of p ∙ base_at l r k h;
      target = ap target_of p ∙ target_at k l;
      next = sym n;
      inside = rw (← n) (place_inside l r (k + 1) (omega arith));
      edits = revision_at k l h ∙ ap (λ m. ops m ∷ drop (k + 1) (revisions l)) (sym p);
    }

pub length_small : (l : List ℕ) → T (readable l) → (k : ℕ) → k ≤ count_of l → length_at k l ≤ max_size
length_small l r zero h = rw (length_start l) (reads l r).short
length_small l r (suc k) h =
    rw (← add-one k) (rw (← target_at k l) ((limits (drop (place_of k l) l)).0 ((faultless (drop (place_of k l) l)).0 (record_at l r k h)).in_limits).targets)

-- ---- one step

module _ (l : List ℕ) (p : Spot) (f : Result ℕ Refusal) (e : answer_of f ≡ check_call (take (length l - p.at) (drop p.at l))) where
  abbrev part : List ℕ
  part = take (length l - p.at) (drop p.at l)

  pub step_fault : (x : Refusal) → f ≡ Err x → Steps l p None
  unfolding readable_from
  step_fault x q =
      let s = check-stopped part f e x q in
      let z : record_fault (drop p.at l) ≡ suc s.less = ap record_fault (sym (to_end l p.at)) ∙ s.fault in
      stop (λ n. rw (ne_eqb (record_fault (drop p.at l)) 0 (λ y. absurd (omega arith))))

  module _ (s : ℕ) (q : f ≡ Ok s) where
    faults : record_fault (drop p.at l) ≡ 0
    faults = ap record_fault (sym (to_end l p.at)) ∙ passed part f e s q

    pub step_base : (b : ℕ) → b ≡ base_of part → (b ≡ p.len → ⊥) → Steps l p None
    unfolding readable_from
    step_base b g d =
        stop (λ n. rw (faults, ne_eqb (base_of (drop p.at l)) p.len (λ z. d (g ∙ ap base_of (to_end l p.at) ∙ z))))

    size_is : s ≡ size_of part
    unfolding check_call
    size_is = let z = rw (passed part f e s q) at (ap answer_of (sym q) ∙ e) in cc z

    pub step_room : p.at ≤ length l → p.at + s ≤ length l
    step_room h = omega (arith, size_is, (no_fault part (passed part f e s q)).room, ap length (to_end l p.at), length-drop p.at l)

    pub step_on : p.at ≤ length l → (b t : ℕ) → b ≡ base_of part → b ≡ p.len → t ≡ target_of part → Steps l p (Some (record { at = p.at + s; len = t }))
    step_on h b t g d u =
        let w = to_end l p.at in
        on (record {
          faultless = faults;
          base = ap base_of (sym w) ∙ sym g ∙ d;
          place = ap (λ i. p.at + i) (size_is ∙ ap size_of w);
          len = u ∙ ap target_of w;
          inside = step_room h;
        })

-- ---- the loop

pub chosen : (k r : ℕ) (here mark : Spot) → k ≡ r → here ≡ cond (eqb k r) here mark
chosen k r here mark e = rw (eq-eqb k r e)

pub kept : (k r : ℕ) (here mark : Spot) → (k ≡ r → ⊥) → mark ≡ cond (eqb k r) here mark
kept k r here mark e = rw (ne_eqb k r e)

pub unreadable : (l : List ℕ) (r : ℕ) → readable l ≡ false → Scans l r None
unreadable l r e = record { scans = e }

module _ (l : List ℕ) (r : ℕ) where
  pub scan_short : length l < 4 → Scans l r None
  unfolding readable
  scan_short h = unreadable l r (rw (lt-leb 4 (length l) h))

  module _ (h : 4 ≤ length l) (n : ℕ) (e : n ≡ count_of l) where
    pub scan_many : 256 < n → Scans l r None
    unfolding readable
    scan_many g = unreadable l r (rw (le-leb 4 (length l) h, lt-leb (count_of l) 256 (omega arith)))

    module _ (g : n ≤ 256) (s : ℕ) (d : s ≡ start_of l) where
      pub scan_long : max_size < s → Scans l r None
      unfolding readable
      scan_long k = unreadable l r (rw (le-leb 4 (length l) h, le-leb (count_of l) 256 (omega arith), lt-leb (start_of l) max_size (omega arith)))

      pub scan_start : s ≤ max_size → Passing l r 0 (record { at = 4; len = s }) (record { at = 0; len = 0 })
      unfolding readable place_of length_at
      scan_start k =
          record {
            place = refl;
            len = d;
            inside = h;
            left =
                rw (le-leb 4 (length l) h, le-leb (count_of l) 256 (omega arith), le-leb (start_of l) max_size (omega arith))
                (ap₂ (λ i j. readable_from i j (drop 4 l)) (sym (sub-zero (count_of l))) (sym d));
            mark_at = λ z. absurd (omega arith);
            mark_len = λ z. absurd (omega arith);
          }

module _ (l : List ℕ) (r n k : ℕ) (here mark : Spot) (e : n ≡ count_of l) (p : Passing l r k here mark) where
  more : k < n → readable l ≡ readable_from (suc (count_of l - (k + 1))) here.len (drop here.at l)
  more h = let z : count_of l - k ≡ suc (count_of l - (k + 1)) = omega arith in p.left ∙ ap (λ i. readable_from i here.len (drop here.at l)) z

  pub scan_stop : k < n → (x : Option Spot) → Steps l here x → x ≡ None → Scans l r None
  scan_stop h x (stop f) q = unreadable l r (more h ∙ f (count_of l - (k + 1)))
  scan_stop h x (on a) q = absurd (let z : ◌≡◌ {A = ℕ} 0 1 = cc q in omega arith)

  module _ (m : Spot) (w : m ≡ cond (eqb k r) here mark) where
    marked_at : r < k + 1 → m.at ≡ place_of r l
    marked_at h = go (eqb k r) refl
      where
        go : (b : Bool) → eqb k r ≡ b → m.at ≡ place_of r l
        go true z = let v : m ≡ here = w ∙ rw z in ap (λ s. s.at) v ∙ p.place ∙ ap (λ i. place_of i l) (eqb-true k r z)
        go false z = let d = eqb-false k r z in let v : m ≡ mark = w ∙ rw z in ap (λ s. s.at) v ∙ p.mark_at (omega arith)

    marked_len : r < k + 1 → m.len ≡ length_at r l
    marked_len h = go (eqb k r) refl
      where
        go : (b : Bool) → eqb k r ≡ b → m.len ≡ length_at r l
        go true z = let v : m ≡ here = w ∙ rw z in ap (λ s. s.len) v ∙ p.len ∙ ap (λ i. length_at i l) (eqb-true k r z)
        go false z = let d = eqb-false k r z in let v : m ≡ mark = w ∙ rw z in ap (λ s. s.len) v ∙ p.mark_len (omega arith)

    passes : k < n → (q : Spot) → Past l here q → Passing l r (k + 1) q m
    unfolding readable_from
    passes h q a =
        let d : drop here.at l ≡ drop (place_of k l) l = ap (λ i. drop i l) p.place in
        record {
          place = a.place ∙ ap₂ (λ i x. i + size_of x) p.place d ∙ sym (place_next k l);
          len = a.len ∙ ap target_of d ∙ target_at k l;
          inside = a.inside;
          left =
              more h
              ∙ rw (a.faultless, eq-eqb (base_of (drop here.at l)) here.len a.base)
              (ap₂ (λ i x. readable_from (count_of l - (k + 1)) i x) (sym a.len) (drop-drop (size_of (drop here.at l)) here.at l ∙ ap (λ i. drop i l) (sym a.place)));
          mark_at = marked_at;
          mark_len = marked_len;
        }

    pub scan_next : k < n → (x : Option Spot) (q : Spot) → Steps l here x → x ≡ Some q → Passing l r (k + 1) q m
    scan_next h x q (stop f) z = absurd (let y : ◌≡◌ {A = ℕ} 0 1 = cc z in omega arith)
    scan_next h x q (on {q = y} a) z = let d : y ≡ q = cc z in passes h q (rw d at a)

    pub scan_end : (s : ℕ) → n ≤ k → k ≤ n → n ≤ 256 → s ≡ start_of l → s ≤ max_size
        → Scans l r (Some (record { count = n; start = s; size = here.at; at = m.at; len = m.len }))
    unfolding readable_from size_of_log
    scan_end s a b c d g =
        let z : count_of l - k ≡ 0 = omega arith in
        let y : k ≡ count_of l = omega arith in
        let f : Found l r (record { count = n; start = s; size = here.at; at = m.at; len = m.len }) =
        record {
          reads = known (p.left ∙ rw z);
          count = e;
          few = c;
          start = d;
          small = g;
          size = p.place ∙ ap (λ i. place_of i l) y;
          whole = p.inside;
          place = λ h. marked_at (omega arith);
          len = λ h. marked_len (omega arith);
        } in
        record { scans = f }
