-- Going through the revisions.
use Rattle.std.specs.Prelude.{◌≡◌, ℕ, ◌+◌, ◌-◌, ◌<◌, ◌≤◌, true, false, ◌&&◌, T, List, [], ◌∷◌, length, take, drop, Result, Ok, Err}
use mathlib.Core.Path.{refl, sym, ap, ◌∙◌}
use native.Mathlib.Omega.{arith}
use Rattle.buffers.proofs.Tests.{holds}
use Rattle.edits.specs.Op.{target}
use Rattle.edits.specs.Sequence.{Seq}
use Rattle.edits.specs.Compose.{compose}
use Rattle.edits.proofs.Claims.{compose_target}
use Rattle.answers.specs.declared.Refusal.{Refusal}
use Rattle.record.specs.Layout.{size_of, base_of, target_of}
use Rattle.record.specs.Record.{fits, ops, record_fault}
use Rattle.record.proofs.Records.{ops_base, ops_target}
use Rattle.session_log.specs.Log.{start_of, place_of, length_at, revisions, count_of, readable}
use Rattle.session_log.proofs.Scanning.{Revision, revision, revisions_end, place_start, length_start, place_inside}
use Rattle.session.specs.Rows.{retain_whole, compose_all, composes_within}
use Rattle.session.proofs.Rows.{still_target}
use Rattle.partial.specs.InnerSumming.{Holds, Makes, Sums}
use Rattle.partial.proofs.Holding.{held_fault, held_ops}

-- before revision k + 1: what is held, composed with the revisions from here on, is the whole
pub record Summing (l : List ℕ) (k at size : ℕ) (b : List ℕ) : Type 0 where
  pub place : at ≡ place_of k l
  pub inside : at ≤ length l
  pub held : Seq
  pub holds : Holds held size b
  pub len : target held ≡ length_at k l
  pub sum : compose_all held (drop k (revisions l)) ≡ compose_all (retain_whole (start_of l)) (revisions l)
  pub within : composes_within held (drop k (revisions l)) ≡ composes_within (retain_whole (start_of l)) (revisions l)

module _ (l : List ℕ) (r : T (readable l)) where
  pub sum_start : (n size : ℕ) (b : List ℕ) → n ≡ start_of l → Holds (retain_whole n) size b → Summing l 0 4 size b
  sum_start n size b e h =
      let g : Holds (retain_whole (start_of l)) size b = rw e at h in
      record {
        place = sym (place_start l);
        inside = rw (← place_start l) (place_inside l r 0 (omega arith));
        held = retain_whole (start_of l);
        holds = g;
        len = still_target (start_of l) ∙ sym (length_start l);
        sum = refl;
        within = refl;
      }

  module _ (k at size : ℕ) (b : List ℕ) (p : Summing l k at size b) (n : ℕ) (e : n ≡ count_of l) where
    module _ (h : k < n) where
      abbrev part : List ℕ
      part = take (length l - at) (drop at l)

      there : Revision l k at part
      there = revision l r k at (omega arith) p.place

      same : ops b ≡ p.held
      same = held_ops p.held size b p.holds

      pub sum_fault : record_fault b ≡ 0
      sum_fault = held_fault p.held size b p.holds

      pub sum_record : record_fault part ≡ 0
      sum_record = there.faultless

      pub sum_target : target_of b ≡ base_of part
      sum_target = sym (ops_target b sum_fault) ∙ ap target same ∙ p.len ∙ sym there.base

      pub sum_room : (z : ℕ) → z ≡ size_of part → at + z ≤ length l
      sum_room z d = omega (arith, there.inside)

      -- the row from here on is this revision and the rest
      sum_on : compose_all (compose (ops b) (ops part)) (drop (k + 1) (revisions l)) ≡ compose_all (retain_whole (start_of l)) (revisions l)
      sum_on = ap (λ s. compose_all (compose s (ops part)) (drop (k + 1) (revisions l))) same ∙ ap (compose_all p.held) (sym there.edits) ∙ p.sum

      within_on : composes_within (compose (ops b) (ops part)) (drop (k + 1) (revisions l)) ≡ composes_within (retain_whole (start_of l)) (revisions l)
      within_on =
          ap (λ s. composes_within (compose s (ops part)) (drop (k + 1) (revisions l))) same
          ∙ ap (λ t. t && composes_within (compose p.held (ops part)) (drop (k + 1) (revisions l))) (sym (holds (fits p.held) p.holds.in_limits))
          ∙ ap (composes_within p.held) (sym there.edits)
          ∙ p.within

      module _ (v : Result ℕ Refusal) (b' : List ℕ) (m : Makes (compose (ops b) (ops part)) v b') where
        pub sum_refused : (x : Refusal) → v ≡ Err x → Sums l (Err x) b'
        sum_refused x q =
            let (i, j) = (rw q at m).makes in
            record { sums = (i, sym within_on ∙ starts (compose (ops b) (ops part)) (drop (k + 1) (revisions l)) j) }
          where
            starts : (s : Seq) (es : List Seq) → fits s ≡ false → composes_within s es ≡ false
            starts s [] w = w
            starts s (d ∷ es) w = rw w

        pub sum_next : (i : ℕ) → v ≡ Ok i → (z : ℕ) → z ≡ size_of part → Summing l (k + 1) (at + z) i b'
        sum_next i q z d =
            record {
              place = ap (λ y. at + y) d ∙ there.next;
              inside = sum_room z d;
              held = compose (ops b) (ops part);
              holds = (rw q at m).makes;
              len = compose_target (ops b) (ops part) (ops_target b sum_fault ∙ sum_target ∙ sym (ops_base part sum_record)) ∙ ops_target part sum_record ∙ there.target;
              sum = sum_on;
              within = within_on;
            }

    pub sum_end : n ≤ k → k ≤ n → Sums l (Ok size) b
    sum_end h g =
        let d = revisions_end k l (omega arith) in
        let a : p.held ≡ compose_all (retain_whole (start_of l)) (revisions l) = sym (ap (compose_all p.held) d) ∙ p.sum in
        let w : composes_within (retain_whole (start_of l)) (revisions l) ≡ true = sym p.within ∙ ap (composes_within p.held) d ∙ holds (fits p.held) p.holds.in_limits in
        record { sums = (w, rw a at p.holds) }
