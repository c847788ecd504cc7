-- From what the code finds to the answers of the calls.
use Rattle.std.specs.Prelude.{◌≡◌, ℕ, zero, suc, ◌+◌, ◌-◌, ◌^◌, ◌<◌, ◌≤◌, Bool, true, false, cond, not, eqb, ltb, leb, List, [], ◌∷◌, map, length, get_or, take, drop, Result, Option, Ok, Err, Some, None}
use native.Mathlib.Omega.{arith}
use mathlib.Core.Path.{refl, sym, ap, ◌∙◌, ap₂}
use lib.ListN.{length-take, length-map, get_or-map, get_or-eq_default}
use borrow.Author.Tests.{eq-eqb, ne_eqb, not-true, not-false, eqb-true, eqb-false, leb-true, leb-false, ltb-true, ltb-false}
use native.Mathlib.Nat.{add-zero}
use lib.Seq.{get_or-drop}
use Rattle.buffers.specs.Lists.{all_of}
use Rattle.buffers.proofs.Tests.{known}
use Rattle.characters.specs.Chars.{number_of_chars}
use Rattle.characters.proofs.Chars.{num_le, split}
use Rattle.edits.specs.Op.{total, base, Op, retain}
use Rattle.edits.specs.Built.{chained}
use Rattle.edits.specs.Sequence.{Seq}
use Rattle.answers.specs.Answer.{refused, success, number, answer_of, noop_of, unless_refused, needs}
use Rattle.answers.specs.declared.Refusal.{Refusal}
use Rattle.answers.specs.declared.Refusal.TheVariants as refusal
use Rattle.record.specs.Layout.{op_count_of, text_bytes_of, base_of, start_of_text, target_of, size_of, kind_at, count_at, max_ops, max_record, max_size}
use Rattle.record.specs.Record.{byte_ops, is_within_limits, sound, well_inserted, gives_chars, entries, sound_entry, text_of, insert_bytes, adds, record_fault, ByteSeq, in_chars, inserted, ops}
use Rattle.record.specs.Calls.{check_call, base_call, target_call, no_effect, noop_call, text_call, start_of_insert}
use Rattle.record.specs.InnerFront.{byte_ops_left}
use Rattle.record.proofs.Faults.{InLimits, limits, faultless}
use Rattle.record.proofs.Records.{byte_ops_length, ops_length}
use Rattle.record.proofs.Walks.{left_all, left_done, left_retain, left_insert, left_delete, inserts_all, inserts_more}
use Rattle.record.proofs.Checked.{same_refusal, passed}
use Rattle.entries.specs.InnerTally.{HasEntries}
use Rattle.tally.specs.declared.inner.Sums.{Sums}
use Rattle.tally.specs.InnerSums.{keeps, sums_of, entries_of}
use Rattle.tally.proofs.Summing.{found, Found, target_found}
use Rattle.inserts.specs.InnerTexts.{inserted_of, Sound, Reached}
use Rattle.inserts.proofs.Texts.{reached_room, Reach, reach}
use Rattle.operation.specs.declared.inner.Totals.{Totals}
use Rattle.operation.specs.InnerEntered.{totals_of, entered_of}

-- which enum's case is found by a test
unsound : (b : Bool) (x : Sums) (e : Option Sums) → e ≡ cond b (Some x) None → e ≡ None → b ≡ false
unsound true x e p q = absurd (let z : ◌≡◌ {A = ℕ} 0 1 = cc (p, q) in omega arith)
unsound false x e p q = refl

summing : (b : Bool) (x s : Sums) (e : Option Sums) → e ≡ cond b (Some x) None → e ≡ Some s → (b ≡ true) × (x ≡ s)
summing true x s e p q = (refl, (cc (p, q)))
summing false x s e p q = absurd (let z : ◌≡◌ {A = ℕ} 0 1 = cc (p, q) in omega arith)

ill : (b : Bool) (x : ℕ) (e : Option ℕ) → e ≡ cond b (Some x) None → e ≡ None → b ≡ false
ill true x e p q = absurd (let z : ◌≡◌ {A = ℕ} 0 1 = cc (p, q) in omega arith)
ill false x e p q = refl

formed : (b : Bool) (x c : ℕ) (e : Option ℕ) → e ≡ cond b (Some x) None → e ≡ Some c → (b ≡ true) × (x ≡ c)
formed true x c e p q = (refl, (cc (p, q)))
formed false x c e p q = absurd (let z : ◌≡◌ {A = ℕ} 0 1 = cc (p, q) in omega arith)

-- ---- check

-- nothing is wrong with a record of n operations and t bytes of text, unless that its target isn't g
pub record Agreed (r : List ℕ) (n t g : ℕ) : Type 0 where
  pub in_limits : is_within_limits r ≡ true
  pub is_sound : sound r ≡ true
  pub texts : all_of well_inserted (byte_ops r) ≡ true
  pub chain : chained (byte_ops r) ≡ true
  pub base_is : base (byte_ops r) ≡ base_of r
  pub target_is : g ≡ total gives_chars (byte_ops r)
  pub ops : n ≡ op_count_of r
  pub text_bytes : t ≡ text_bytes_of r
  pub few : n ≤ max_ops
  pub short : t ≤ max_size
  pub small : g < 2 ^ 32

module _ (r : List ℕ) (a : Bool) (pa : a ≡ is_within_limits r) where
  pub entered_1 : not a ≡ true → Err refusal.Size ≡ entered_of r
  unfolding entered_of
  entered_1 h = rw (sym pa ∙ not-true a h)

  module _ (h : not a ≡ false) where
    abbrev limited : is_within_limits r ≡ true
    limited = sym pa ∙ not-false a h

    bounds : InLimits r
    bounds = (limits r).0 (known limited)

    pub has_header : 8 ≤ length r
    has_header = bounds.header

    module _ (n : ℕ) (pn : n ≡ op_count_of r) where
      pub has_entries : HasEntries r n
      has_entries = record { count_is = omega (arith, bounds); few = omega (arith, bounds); there = omega (arith, bounds) }

    module _ (t : ℕ) (pt : t ≡ text_bytes_of r) (e : Option Sums) (pe : e ≡ entries_of r) where
      pub entered_2 : e ≡ None → Err refusal.Entry ≡ entered_of r
      unfolding entered_of sound entries_of
      entered_2 u = rw (limited, unsound (all_of sound_entry (entries r)) (sums_of r) e pe u)

      module _ (q : Sums) (pq : e ≡ Some q) where
        given : (all_of sound_entry (entries r) ≡ true) × (sums_of r ≡ q)
        unfolding entries_of
        given = summing (all_of sound_entry (entries r)) (sums_of r) q e pe pq

        sums : Found r q
        sums = rw given.1 at (found r)

        pub entered_2' : (q.inserts ≡ t → ⊥) → Err refusal.Entry ≡ entered_of r
        unfolding entered_of sound
        entered_2' u = rw (limited, given.0, ne_eqb (insert_bytes (entries r)) (text_bytes_of r) (λ z. u (sums.inserts ∙ z ∙ sym pt)))

        pub entered_0 : (n : ℕ) → n ≡ op_count_of r → q.inserts ≡ t → Ok (record { ops = n; text = t; ordered = q.ordered; base = q.base; kept = q.kept }) ≡ entered_of r
        unfolding entered_of sound totals_of sums_of
        entered_0 n pn st =
            let x = sym given.1 in
            rw (limited, given.0, eq-eqb (insert_bytes (entries r)) (text_bytes_of r) (sym sums.inserts ∙ st ∙ pt))
            (λ i. Ok (record { ops = pn i; text = pt i; ordered = (x i).ordered; base = (x i).base; kept = (x i).kept }))

-- where the entries are refused, the record is
module _ (r : List ℕ) (e : Result Totals Refusal) (pe : e ≡ entered_of r) where
  pub check_2 : (x : Refusal) → e ≡ Err x → refused (number x) ≡ check_call r
  unfolding entered_of check_call record_fault
  check_2 x q = go (is_within_limits r) (sound r) (sym q ∙ pe)
    where
      go : (a b : Bool) → Err x ≡ cond a (cond b (Ok (totals_of r)) (Err refusal.Entry)) (Err refusal.Size)
          → refused (number x)
          ≡ unless_refused (needs a 1 (needs b 2 (needs (all_of well_inserted (byte_ops r)) 3 (needs (chained (byte_ops r)) 4 (needs (adds r) 5 0))))) refused (success (size_of r ∷ []))
      go true true h = absurd (let z : ◌≡◌ {A = ℕ} 0 1 = cc h in omega arith)
      go true false h = let z : x ≡ refusal.Entry = cc h in ap (λ y. refused (number y)) z
      go false b h = let z : x ≡ refusal.Size = cc h in ap (λ y. refused (number y)) z

  pub of_entered : (t : Totals) → e ≡ Ok t → Ok t ≡ entered_of r
  of_entered t q = sym q ∙ pe

-- neither 1 nor 2 is found
record Totalled (r : List ℕ) (t : Totals) : Type 0 where
  pub in_limits : is_within_limits r ≡ true
  pub is_sound : sound r ≡ true
  pub same : t ≡ totals_of r

module _ (r : List ℕ) (t : Totals) (pt : Ok t ≡ entered_of r) where
  totalled : Totalled r t
  unfolding entered_of
  totalled = go (is_within_limits r) (sound r) refl refl pt
    where
      go : (a b : Bool) → is_within_limits r ≡ a → sound r ≡ b → Ok t ≡ cond a (cond b (Ok (totals_of r)) (Err refusal.Entry)) (Err refusal.Size) → Totalled r t
      go true true p q h = record { in_limits = p; is_sound = q; same = cc h }
      go true false p q h = absurd (let z : ◌≡◌ {A = ℕ} 0 1 = cc h in omega arith)
      go false b p q h = absurd (let z : ◌≡◌ {A = ℕ} 0 1 = cc h in omega arith)

  in_bounds : InLimits r
  in_bounds = (limits r).0 (known totalled.in_limits)

  pub totals_header : 8 ≤ length r
  totals_header = in_bounds.header

  pub totals_ops : t.ops ≡ op_count_of r
  unfolding totals_of
  totals_ops = ap (λ x. x.ops) totalled.same

  pub totals_text : t.text ≡ text_bytes_of r
  unfolding totals_of
  totals_text = ap (λ x. x.text) totalled.same

  pub totals_ordered : t.ordered ≡ chained (byte_ops r)
  unfolding totals_of
  totals_ordered = ap (λ x. x.ordered) totalled.same

  pub totals_few : t.ops ≤ max_ops
  totals_few = omega (arith, in_bounds, totals_ops)

  totals_base : t.base ≡ base (byte_ops r)
  unfolding totals_of
  totals_base = ap (λ x. x.base) totalled.same

  totals_kept : t.kept ≡ total keeps (byte_ops r)
  unfolding totals_of
  totals_kept = ap (λ x. x.kept) totalled.same

  kept_less : t.kept ≤ t.base
  unfolding sums_of
  kept_less = let l : total keeps (byte_ops r) ≤ base (byte_ops r) = (found r).less in omega (arith, totals_kept, totals_base)

  entries_well : (all_of sound_entry (entries r) ≡ true) × (insert_bytes (entries r) ≡ text_bytes_of r)
  unfolding sound
  entries_well = let (x, y) = split (all_of sound_entry (entries r)) (eqb (insert_bytes (entries r)) (text_bytes_of r)) totalled.is_sound in (x, eqb-true (insert_bytes (entries r)) (text_bytes_of r) y)

  pub totals_sound : Sound r
  totals_sound = record { few = in_bounds.ops; short = in_bounds.text_bytes; room = in_bounds.whole; entries_sound = known entries_well.0; adds_up = entries_well.1 }

  module _ (o : Option ℕ) (po : o ≡ inserted_of r) where
    pub check_3 : o ≡ None → refused 3 ≡ check_call r
    unfolding check_call record_fault inserted_of
    check_3 u = rw (totalled.in_limits, totalled.is_sound, ill (all_of well_inserted (byte_ops r)) (number_of_chars (text_of r)) o po u)

    module _ (c : ℕ) (pc : o ≡ Some c) where
      texts : (all_of well_inserted (byte_ops r) ≡ true) × (number_of_chars (text_of r) ≡ c)
      unfolding inserted_of
      texts = formed (all_of well_inserted (byte_ops r)) (number_of_chars (text_of r)) c o po pc

      pub check_4 : not t.ordered ≡ true → refused 4 ≡ check_call r
      unfolding check_call record_fault
      check_4 u = rw (totalled.in_limits, totalled.is_sound, texts.0, sym totals_ordered ∙ not-true t.ordered u)

      module _ (ml : not t.ordered ≡ false) (b' : ℕ) (pb : b' ≡ base_of r) where
        pub check_5 : (t.base ≡ b' → ⊥) → refused 5 ≡ check_call r
        unfolding check_call record_fault adds
        check_5 u = rw (totalled.in_limits, totalled.is_sound, texts.0, sym totals_ordered ∙ not-false t.ordered ml, ne_eqb (base (byte_ops r)) (base_of r) (λ z. u (totals_base ∙ z ∙ sym pb)))

        pub agreed : t.base ≡ b' → Agreed r t.ops t.text (t.kept + c)
        unfolding text_of
        agreed mb =
            record {
              in_limits = totalled.in_limits;
              is_sound = totalled.is_sound;
              texts = texts.0;
              chain = sym totals_ordered ∙ not-false t.ordered ml;
              base_is = sym totals_base ∙ mb ∙ pb;
              target_is = ap (λ k. t.kept + k) (sym texts.1) ∙ ap (λ k. k + number_of_chars (text_of r)) totals_kept ∙ target_found r entries_well.1;
              ops = totals_ops;
              text_bytes = totals_text;
              few = totals_few;
              short = omega (arith, in_bounds, totals_text);
              small = omega (arith, kept_less, in_bounds, texts.1, num_le (text_of r), length-take (text_bytes_of r) (drop (start_of_text (op_count_of r)) r));
            }

pub entered_sound : (r : List ℕ) (e : Result Totals Refusal) → e ≡ entered_of r → (t : Totals) → e ≡ Ok t → Sound r
entered_sound r e p t q = totals_sound r t (of_entered r e p t q)

module _ (r : List ℕ) (n t g : ℕ) (a : Agreed r n t g) (g' : ℕ) (pg : g' ≡ target_of r) where
  pub check_5' : (g ≡ g' → ⊥) → refused 5 ≡ check_call r
  unfolding check_call record_fault adds
  check_5' u =
      rw (a.in_limits, a.is_sound, a.texts, a.chain, eq-eqb (base (byte_ops r)) (base_of r) a.base_is, ne_eqb (total gives_chars (byte_ops r)) (target_of r) (λ z. u (a.target_is ∙ z ∙ sym pg)))

  pub check_0 : (z : ℕ) → z ≡ start_of_text n → g ≡ g' → success ((z + t) ∷ []) ≡ check_call r
  unfolding check_call record_fault adds
  check_0 z pz mg =
      rw (a.in_limits, a.is_sound, a.texts, a.chain, eq-eqb (base (byte_ops r)) (base_of r) a.base_is, eq-eqb (total gives_chars (byte_ops r)) (target_of r) (sym a.target_is ∙ mg ∙ pg))
      (ap (λ k. success (k ∷ [])) (omega (arith, a.ops, a.text_bytes)))

-- ---- after the check

-- what the record is like where no fault was found
pub no_fault : (r : List ℕ) → record_fault r ≡ 0 → Sound r
no_fault r z =
    let f = (faultless r).0 z in
    let l = (limits r).0 f.in_limits in
    record { few = l.ops; short = l.text_bytes; room = l.whole; entries_sound = f.sound; adds_up = f.adds_up }

module _ (r : List ℕ) (f : Result ℕ Refusal) (p : answer_of f ≡ check_call r) where
  pub base_refused : (x : Refusal) → f ≡ Err x → refused (number x) ≡ base_call r
  unfolding base_call
  base_refused x q = same_refusal r f p x _ q

  pub target_refused : (x : Refusal) → f ≡ Err x → refused (number x) ≡ target_call r
  unfolding target_call
  target_refused x q = same_refusal r f p x _ q

  pub noop_refused : (x : Refusal) → f ≡ Err x → refused (number x) ≡ noop_call r
  unfolding noop_call
  noop_refused x q = same_refusal r f p x _ q

  pub text_refused : (k : ℕ) (x : Refusal) → f ≡ Err x → [] ≡ text_call r k
  unfolding check_call text_call
  text_refused k x q = go (record_fault r) (ap answer_of (sym q) ∙ p)
    where
      go : (m : ℕ) → refused (number x) ≡ unless_refused m refused (success (size_of r ∷ [])) → [] ≡ unless_refused m (λ n. []) (get_or (map inserted (byte_ops r)) k [])
      go zero e = absurd (let z : ◌≡◌ {A = ℕ} 0 1 = cc e in omega arith)
      go (suc m) e = refl

  module _ (s : ℕ) (q : f ≡ Ok s) where
    pub passed_sound : Sound r
    passed_sound = no_fault r (passed r f p s q)

    pub passed_header : 8 ≤ length r
    passed_header = omega (arith, passed_sound)

    pub passed_kinds : start_of_text (op_count_of r) ≤ length r
    passed_kinds = omega (arith, passed_sound)

    pub base_is : (b : ℕ) → b ≡ base_of r → success (b ∷ []) ≡ base_call r
    unfolding base_call
    base_is b e = rw (passed r f p s q) (ap (λ n. success (n ∷ [])) e)

    pub target_is : (b : ℕ) → b ≡ target_of r → success (b ∷ []) ≡ target_call r
    unfolding target_call
    target_is b e = rw (passed r f p s q) (ap (λ n. success (n ∷ [])) e)

    -- ---- no effect

    module _ (n : ℕ) (pn : n ≡ op_count_of r) where
      all_ahead : byte_ops r ≡ byte_ops_left r 0 (start_of_text (op_count_of r))
      all_ahead = sym (left_all r passed_sound.adds_up)

      noop_by : (m : ℕ) → no_effect (ops r) ≡ m → success (m ∷ []) ≡ noop_call r
      unfolding noop_call
      noop_by m e = rw ((passed r f p s q), e)

      pub noop_none : n ≡ 0 → success (1 ∷ []) ≡ noop_call r
      unfolding ops
      noop_none z = noop_by 1 (ap (λ q. no_effect (map in_chars q)) (all_ahead ∙ left_done r 0 _ (omega arith)))

      pub noop_many : 1 < n → success (0 ∷ []) ≡ noop_call r
      noop_many h = noop_by 0 (go (ops r) (omega (arith, ops_length r (passed r f p s q))))
        where
          go : (s : Seq) → 1 < length s → no_effect s ≡ 0
          go [] l = absurd (omega arith)
          go (o ∷ []) l = absurd (omega arith)
          go (o ∷ u ∷ s) l = refl

      module _ (z : n ≡ 0 → ⊥) (l : n ≤ 1) (kind : ℕ) (pk : kind ≡ kind_at r 0) where
        pub noop_one : noop_of (Ok (eqb kind 1)) ≡ noop_call r
        unfolding ops in_chars
        noop_one = go (eqb kind 1) refl
          where
            one : (o : Op ℕ) (m at : ℕ) → byte_ops_left r 0 (start_of_text (op_count_of r)) ≡ o ∷ byte_ops_left r 1 at → no_effect (in_chars o ∷ []) ≡ m → success (m ∷ []) ≡ noop_call r
            one o m at a e = noop_by m (ap (λ q. no_effect (map in_chars q)) (all_ahead ∙ a ∙ ap (λ q. o ∷ q) (left_done r 1 at (omega arith))) ∙ e)

            go : (b : Bool) → eqb kind 1 ≡ b → noop_of (Ok b) ≡ noop_call r
            go true e = one _ 1 _ (left_retain r 0 (omega arith) _ (sym pk ∙ eqb-true kind 1 e)) refl
            go false e = other (eqb kind 2) refl
              where
                no : kind_at r 0 ≡ 1 → ⊥
                no y = eqb-false kind 1 e (pk ∙ y)

                other : (b : Bool) → eqb kind 2 ≡ b → noop_of (Ok false) ≡ noop_call r
                other true g = one _ 0 _ (left_insert r 0 (omega arith) _ (sym pk ∙ eqb-true kind 2 g)) refl
                other false g = one _ 0 _ (left_delete r 0 (omega arith) _ no (λ y. eqb-false kind 2 g (pk ∙ y))) refl

    -- ---- the text of operation k

    module _ (n k : ℕ) (pn : n ≡ op_count_of r) where
      text_by : (x : List ℕ) → x ≡ get_or (map inserted (byte_ops r)) k [] → x ≡ text_call r k
      unfolding text_call
      text_by x e = rw (passed r f p s q) e

      pub text_past : n ≤ k → [] ≡ text_call r k
      text_past h = text_by [] (sym (get_or-eq_default (map inserted (byte_ops r)) [] (simp length-map (omega (arith, byte_ops_length r (passed r f p s q))))))

      -- the operation in front of what lies ahead
      at_front : (at : ℕ) (o : Op ℕ) (s : ByteSeq) → Reached r k at → byte_ops_left r k at ≡ o ∷ s → inserted o ≡ text_call r k
      at_front at o s g e =
          text_by (inserted o)
          (sym (get_or-map inserted (byte_ops r) k (retain 0)
          ∙ ap (λ j. inserted (get_or (byte_ops r) j (retain 0))) (sym (add-zero k))
          ∙ ap inserted (sym (get_or-drop k (byte_ops r) 0 (retain 0)))
          ∙ ap (λ q. inserted (get_or q 0 (retain 0))) (g.left ∙ e)))

      module _ (h : k < n) (kind : ℕ) (pk : kind ≡ kind_at r k) where
        pub text_other : (kind ≡ 2 → ⊥) → [] ≡ text_call r k
        text_other z = go (eqb kind 1) refl
          where
            g : Reach r k
            g = reach r passed_sound k (omega arith)

            go : (b : Bool) → eqb kind 1 ≡ b → [] ≡ text_call r k
            go true e = at_front g.at _ _ g.reached (left_retain r k (omega arith) g.at (sym pk ∙ eqb-true kind 1 e))
            go false e = at_front g.at _ _ g.reached (left_delete r k (omega arith) g.at (λ y. eqb-false kind 1 e (pk ∙ y)) (λ y. z (pk ∙ y)))

        module _ (from count : ℕ) (z : kind ≡ 2) (g : Reached r k from) (pc : count ≡ count_at r k) where
          pub text_room : from + count ≤ length r
          text_room = reached_room r n k from kind (omega arith) pn g pk count pc z

          pub text_is : take (from + count - from) (drop from r) ≡ text_call r k
          text_is =
              let e : from + count - from ≡ count_at r k = omega arith in
              ap (λ j. take j (drop from r)) e ∙ at_front from _ _ g (left_insert r k (omega arith) from (sym pk ∙ z))

-- ---- where it begins

-- behind the text of the operations before it
module _ (r : List ℕ) (k from : ℕ) (z : record_fault r ≡ 0) (h : k < op_count_of r) (g : Reached r k from) where
  pub text_from : from ≡ start_of_insert r k
  unfolding start_of_insert
  text_from = omega (arith, g.ends, inserts_all r k (omega arith), (no_fault r z).adds_up)

  pub from_small : from ≤ max_record
  from_small = omega (arith, g.ends, (no_fault r z).few, (no_fault r z).short)

module _ (r : List ℕ) (k : ℕ) (h : 0 < length (text_call r k)) where
  pub text_passed : record_fault r ≡ 0
  unfolding text_call
  text_passed = go (record_fault r) h
    where
      go : (m : ℕ) → 0 < length (unless_refused m (λ n. []) (get_or (map inserted (byte_ops r)) k [])) → m ≡ 0
      go zero l = refl
      go (suc m) l = absurd (omega arith)

  checked : success (size_of r ∷ []) ≡ check_call r
  unfolding check_call
  checked = rw text_passed

  pub text_index : k < op_count_of r
  text_index = go (leb (op_count_of r) k) refl
    where
      go : (b : Bool) → leb (op_count_of r) k ≡ b → k < op_count_of r
      go true e = absurd (omega (arith, ap length (text_past r (Ok (size_of r)) checked (size_of r) refl (op_count_of r) k refl (leb-true (op_count_of r) k e))))
      go false e = leb-false (op_count_of r) k e

  text_kind : kind_at r k ≡ 2
  text_kind = go (eqb (kind_at r k) 2) refl
    where
      go : (b : Bool) → eqb (kind_at r k) 2 ≡ b → kind_at r k ≡ 2
      go true e = eqb-true (kind_at r k) 2 e
      go false e = absurd (omega (arith, ap length (text_other r (Ok (size_of r)) checked (size_of r) refl (op_count_of r) k refl text_index (kind_at r k) refl (eqb-false (kind_at r k) 2 e))))

  reached : Reach r k
  reached = reach r (no_fault r text_passed) k (omega (arith, text_index))

  -- how many bytes of the record it is
  there : take (count_at r k) (drop (start_of_insert r k) r) ≡ text_call r k
  there =
      let from = reached.at in
      let e : from + count_at r k - from ≡ count_at r k = omega arith in
      ap₂ (λ n i. take n (drop i r)) (sym e) (sym (text_from r k from text_passed text_index reached.reached))
      ∙ text_is r (Ok (size_of r)) checked (size_of r) refl (op_count_of r) k refl text_index (kind_at r k) refl from (count_at r k) text_kind reached.reached refl

  pub text_small : length (text_call r k) ≤ max_size
  text_small =
      omega
      (arith, ap length there, length-take (count_at r k) (drop (start_of_insert r k) r), inserts_more r k text_index text_kind, inserts_all r k (omega (arith, text_index)), (no_fault r text_passed).adds_up, (no_fault r text_passed).short)

take_again : (n : ℕ) (l : List ℕ) → take (length (take n l)) l ≡ take n l
take_again zero l = refl
take_again (suc n) [] = refl
take_again (suc n) (x ∷ l) = ap (λ t. x ∷ t) (take_again n l)

-- the text of operation k is the part of the record that begins there
pub text_stands : (r : List ℕ) (k : ℕ) → take (length (text_call r k)) (drop (start_of_insert r k) r) ≡ text_call r k
text_stands r k = go (ltb 0 (length (text_call r k))) refl
  where
    none : (x l : List ℕ) → length x ≤ 0 → take (length x) l ≡ x
    none [] l h = refl
    none (c ∷ x) l h = absurd (omega arith)

    go : (b : Bool) → ltb 0 (length (text_call r k)) ≡ b → take (length (text_call r k)) (drop (start_of_insert r k) r) ≡ text_call r k
    go true e =
        let t = there r k (ltb-true 0 (length (text_call r k)) e) in
        ap (λ x. take (length x) (drop (start_of_insert r k) r)) (sym t) ∙ take_again (count_at r k) (drop (start_of_insert r k) r) ∙ t
    go false e = none (text_call r k) (drop (start_of_insert r k) r) (ltb-false 0 (length (text_call r k)) e)
