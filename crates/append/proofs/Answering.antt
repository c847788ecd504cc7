-- The answers of accept.
use Rattle.std.specs.Prelude.{◌≡◌, ℕ, suc, ◌+◌, ◌-◌, ◌<◌, ◌≤◌, Bool, true, false, not, ◌&&◌, leb, List, [], ◌∷◌, length, take, drop, Result, Option, Ok, Err, Some, None}
use mathlib.Core.Path.{sym, ap, ◌∙◌, refl, ap₂, subst}
use lib.Seq.{length-take-le}
use native.Mathlib.Omega.{arith}
use mathlib.Core.Bool.{and-eq-true_iff}
use borrow.Author.Tests.{le-leb, lt-leb, leb-true, not-false, eq-eqb, ne_eqb, lt-ltb, le-ltb, not-true}
use Rattle.buffers.proofs.Tests.{holds}
use Rattle.edits.specs.Sequence.{Seq}
use Rattle.answers.specs.declared.Refusal.{Refusal}
use Rattle.answers.specs.declared.Refusal.TheVariants.{Log, Revision, IncompatibleLengths, Limit, Room}
use Rattle.answers.specs.Answer.{number, success, refused, answer_of, needs}
use Rattle.record.specs.Layout.{size_of, base_of}
use Rattle.record.specs.Record.{encode, ops, record_fault}
use Rattle.record.specs.Calls.{check_call}
use Rattle.record.proofs.Faults.{limits, faultless}
use Rattle.record.proofs.Checked.{stopped}
use Rattle.session_log.specs.declared.inner.Scan.{Scan}
use Rattle.session_log.specs.Log.{encode_all, count_of, readable, size_of_log, length_at, revisions}
use Rattle.session_log.specs.InnerScan.{Found, Scans}
use Rattle.session.specs.Rows.{Moved, rebase}
use Rattle.session.specs.Session.{moved_in, accept_fault, append, accept_call}
use Rattle.counterparts.specs.InnerRunning.{Holds, HandsOut}
use Rattle.append.specs.InnerAccepting.{Rooms, Admitted, MovedPast, Accepts}

-- the record of e in a buffer has as many bytes as e's
size_of_held : (e : Seq) (cur : List ℕ) → Holds e cur → size_of cur ≡ length (encode e)
size_of_held e cur h = sym (length-take-le (size_of cur) cur ((limits cur).0 ((faultless cur).0 h.fault).in_limits).whole) ∙ ap length h.bytes_are

-- ---- room

module _ (log : List ℕ) (used size : ℕ) (out : List ℕ) (bytes : ℕ) where
  pub room_short : used ≤ length log → length log - used < size → Rooms log used size out bytes false
  room_short h g = record { told = rw (lt-leb (used + size) (length log) (omega (arith, g, h))) }

  pub room_rest : used ≤ length log → size ≤ length log - used → Rooms log used size out bytes (leb bytes (length out))
  room_rest h g = record { told = rw (le-leb (used + size) (length log) (omega (arith, g, h))) }

  module _ (v : Bool) (t : Rooms log used size out bytes v) (h : not v ≡ false) where
    both_room : (leb (used + size) (length log) ≡ true) × (leb bytes (length out) ≡ true)
    both_room = (and-eq-true_iff (leb (used + size) (length log)) (leb bytes (length out))).0 (sym t.told ∙ not-false v h)

    pub room_log : used + size ≤ length log
    room_log = leb-true (used + size) (length log) both_room.0

    pub room_out : bytes ≤ length out
    room_out = leb-true bytes (length out) both_room.1

module _ (edit : List ℕ) (r : ℕ) (log out : List ℕ) where
  stops : (x : Refusal) (k : ℕ) → number x ≡ suc k → accept_fault edit r log out ≡ suc k → Accepts edit r log out (Err x) log out
  unfolding accept_call
  stops x k n e = record { answer = rw e (ap refused n); log_is = rw e; out_is = rw e }

  -- ---- the edit and the log

  pub accepts_edit : (f : Result ℕ Refusal) → answer_of f ≡ check_call edit → (x : Refusal) → f ≡ Err x → Accepts edit r log out (Err x) log out
  unfolding accept_fault
  accepts_edit f p x q = let s = stopped edit f p x q in stops x s.less s.number_is (rw s.fault)

  module _ (z : record_fault edit ≡ 0) where
    pub accepts_log : (x : Option Scan) → Scans log r x → x ≡ None → Accepts edit r log out (Err Log) log out
    unfolding accept_fault
    accepts_log x h e = let u = (subst (Scans log r) e h).scans in stops Log 5 refl (rw (z, u))

    module _ (s : Scan) (f : Found log r s) where
      readable_is : readable log ≡ true
      readable_is = holds (readable log) f.reads

      pub accepts_revision : s.count < r → Accepts edit r log out (Err Revision) log out
      unfolding accept_fault
      accepts_revision h = stops Revision 6 refl (rw (z, readable_is, lt-leb r (count_of log) (omega (arith, f.count, h))))

      module _ (h : r ≤ s.count) (b : ℕ) (pb : b ≡ base_of edit) where
        rev : r ≤ count_of log
        rev = omega (arith, f.count, h)

        pub accepts_lengths : (b ≡ s.len → ⊥) → Accepts edit r log out (Err IncompatibleLengths) log out
        unfolding accept_fault
        accepts_lengths n =
            stops IncompatibleLengths 7 refl (rw (z, readable_is, le-leb r (count_of log) rev, ne_eqb (base_of edit) (length_at r log) (λ q. n (pb ∙ q ∙ sym (f.len rev)))))

        module _ (m : b ≡ s.len) where
          pub accepts_many : 256 ≤ s.count → Accepts edit r log out (Err Limit) log out
          unfolding accept_fault
          accepts_many q =
              stops Limit 8 refl (rw (z, readable_is, le-leb r (count_of log) rev, eq-eqb (base_of edit) (length_at r log) (sym pb ∙ m ∙ f.len rev), le-ltb (count_of log) 256 (omega (arith, f.count, q))))

          pub admitted : s.count < 256 → Admitted edit r log s
          admitted q = record { fault = z; found = f; rev = rev; meets = sym pb ∙ m ∙ f.len rev; few = omega (arith, f.count, q) }

  -- ---- the run

  module _ (s : Scan) (a : Admitted edit r log s) where
    abbrev vs : List Seq
    vs = drop r (revisions log)

    abbrev moved : Moved
    moved = rebase (ops edit) vs

    -- what is left to test
    left : accept_fault edit r log out ≡ needs moved.kept 9 (needs (leb (size_of_log log + length (encode moved.edit)) (length log) && leb (length (encode_all moved.counterparts)) (length out)) 10 0)
    unfolding accept_fault moved_in
    left = rw (a.fault, holds (readable log) a.found.reads, le-leb r (count_of log) a.rev, eq-eqb (base_of edit) (length_at r log) a.meets, lt-ltb (count_of log) 256 a.few)

    pub accepts_limit : moved.kept ≡ false → Accepts edit r log out (Err Limit) log out
    accepts_limit h = stops Limit 8 refl (left ∙ rw h)

    module _ (bytes : ℕ) (cur : List ℕ) (m : MovedPast edit r log bytes cur) (size : ℕ) (ps : size ≡ size_of cur) where
      size_is : size ≡ length (encode moved.edit)
      size_is = ps ∙ size_of_held moved.edit cur m.moved.holds

      module _ (v : Bool) (t : Rooms log s.size size out bytes v) where
        tests : v ≡ (leb (size_of_log log + length (encode moved.edit)) (length log) && leb (length (encode_all moved.counterparts)) (length out))
        tests = t.told ∙ (λ i. leb (a.found.size i + size_is i) (length log) && leb (m.moved.bytes_are i) (length out))

        pub accepts_room : not v ≡ true → Accepts edit r log out (Err Room) log out
        accepts_room h = stops Room 9 refl (left ∙ rw (m.moved.kept, sym tests ∙ not-true v h))

        module _ (h : not v ≡ false) where
          fault_none : accept_fault edit r log out ≡ 0
          fault_none = left ∙ rw (m.moved.kept, sym tests ∙ not-false v h)

          pub accepts_moved : (cur' log' out' : List ℕ) → HandsOut (ops edit) vs out cur' out' → log' ≡ append log (take size cur') → Accepts edit r log out (Ok (size, bytes)) log' out'
          unfolding accept_call moved_in
          accepts_moved cur' log' out' o e =
              let k : take size cur' ≡ encode moved.edit =
              ap (λ n. take n cur') (size_is ∙ sym (size_of_held moved.edit cur' o.holds)) ∙ o.holds.bytes_are in
              record {
                answer = rw fault_none (ap₂ (λ x y. success (x ∷ y ∷ [])) size_is m.moved.bytes_are);
                log_is = rw fault_none (e ∙ ap (append log) k);
                out_is = rw fault_none o.given;
              }

pub scanned : (log : List ℕ) (r : ℕ) (x : Option Scan) (s : Scan) → Scans log r x → x ≡ Some s → Found log r s
scanned log r x s h e = (subst (Scans log r) e h).scans
