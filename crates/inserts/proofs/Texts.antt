-- What the check of the inserted texts goes by: from operation k on, what the whole comes to.
use Rattle.std.specs.Prelude.{◌≡◌, ℕ, zero, suc, ◌+◌, ◌-◌, ◌<◌, ◌≤◌, Bool, true, false, cond, not, ◌&&◌, T, eqb, leb, ◌⊎◌, List, [], ◌∷◌, length, get_or, take, drop, Option, Some, None}
use mathlib.Core.Path.{refl, sym, ap, ap₂, ◌∙◌}
use mathlib.Core.Bool.{and-true, and-false}
use lib.Dec.{leb→le}
use lib.ListN.{length-drop}
use borrow.Author.Tests.{not-true, eqb-true, eqb-false, eq-eqb, ne_eqb, leb-true, leb-false, not-false}
use native.Mathlib.Omega.{arith}
use lib.Seq.{take-add, length-take-le, drop-drop, get_or-drop}
use mathlib.Core.Logic.{inl, inr}
use native.Mathlib.Nat.{sub-zero, add-zero}
use native.Mathlib.Numerals.{add-one}
use Rattle.buffers.specs.Lists.{all_of}
use Rattle.buffers.proofs.Tests.{both, known}
use Rattle.characters.specs.Chars.{is_continuation, loose, number_of_chars}
use Rattle.characters.specs.Form.{is_well_formed, within}
use Rattle.characters.specs.InnerPassed.{form_of}
use Rattle.characters.proofs.Chars.{split, num_le}
use Rattle.characters.proofs.Cuts.{loose_first, well_join, well_first, plain_first}
use Rattle.characters.proofs.Passed.{form_ill, form_well, form_num}
use Rattle.edits.specs.Built.{kind, chained}
use Rattle.record.specs.Record.{Entry, insert_bytes, operations, well_inserted, sound_entry, entries, byte_ops, entries_from, entry_at, text_of}
use Rattle.record.specs.Layout.{op_count_of, start_of_text, kind_at, count_at, text_bytes_of}
use Rattle.record.specs.InnerFront.{byte_ops_left, entries_left}
use Rattle.record.proofs.Records.{sound_kind}
use Rattle.record.proofs.Walks.{left_all, left_insert, inserts_more, inserts_same, left_other, entries_done, entries_next, sound_next}
use Rattle.entries.specs.InnerTally.{entry, can_follow, picked}
use Rattle.entries.proofs.Tallying.{chars_part, ordered_follow}
use Rattle.inserts.specs.InnerTexts.{starts_with_char, Sound, Reached, inserted_of}

-- ---- texts

starts_loose : (es : List Entry) (t : List ℕ) → starts_with_char es t ≡ true → loose (take (insert_bytes es) t) ≡ []
starts_loose [] t h = refl
starts_loose (e ∷ es) t h = go (eqb e.kind 2) h (starts_loose es t)
  where
    go : (b : Bool) → cond b (not (is_continuation (get_or t 0 0)) && starts_with_char es (drop e.count t)) (starts_with_char es t) ≡ true → (starts_with_char es t ≡ true → loose (take (insert_bytes es) t) ≡ [])
        → loose (take (cond b (e.count + insert_bytes es) (insert_bytes es)) t) ≡ []
    go true h ih = loose_first (e.count + insert_bytes es) t (not-true _ (split (not (is_continuation (get_or t 0 0))) (starts_with_char es (drop e.count t)) h).0)
    go false h ih = ih h

-- an insert in front of others
insert_front : (n m : ℕ) (t : List ℕ) (s : Bool) → 1 ≤ n → n + m ≤ length t → (s ≡ true → loose (take m (drop n t)) ≡ [])
    → (is_well_formed (take n t) && (is_well_formed (take m (drop n t)) && s)) ≡ (is_well_formed (take (n + m) t) && (not (is_continuation (get_or t 0 0)) && s))
insert_front n m t false h l f =
    ap (λ b. is_well_formed (take n t) && b) (and-false (is_well_formed (take m (drop n t)))) ∙ and-false (is_well_formed (take n t))
    ∙ sym (ap (λ b. is_well_formed (take (n + m) t) && b) (and-false (not (is_continuation (get_or t 0 0)))) ∙ and-false (is_well_formed (take (n + m) t)))
insert_front n m t true h l f =
    let j : is_well_formed (take (n + m) t) ≡ (is_well_formed (take n t) && is_well_formed (take m (drop n t))) = ap is_well_formed (take-add n m t) ∙ well_join (take n t) (take m (drop n t)) (f refl) in
    ap (λ b. is_well_formed (take n t) && b) (and-true (is_well_formed (take m (drop n t))))
    ∙ go (is_well_formed (take n t)) refl
    ∙ ap₂ ◌&&◌ (sym j) (sym (and-true (not (is_continuation (get_or t 0 0)))))
  where
    go : (a : Bool) → is_well_formed (take n t) ≡ a → (a && is_well_formed (take m (drop n t))) ≡ ((a && is_well_formed (take m (drop n t))) && not (is_continuation (get_or t 0 0)))
    go false e = refl
    go true e = sym (ap (λ b. is_well_formed (take m (drop n t)) && not b) (well_first n t h (omega arith) e) ∙ and-true (is_well_formed (take m (drop n t))))

starts_step : (k n : ℕ) (es : List Entry) (t : List ℕ) → 1 ≤ n → ((u : List ℕ) → insert_bytes es ≤ length u → all_of well_inserted (operations es u) ≡ (is_well_formed (take (insert_bytes es) u) && starts_with_char es u))
    → (k ≡ 1) ⊎ ((k ≡ 2) ⊎ (k ≡ 3)) → insert_bytes (entry k n ∷ es) ≤ length t
    → all_of well_inserted (operations (entry k n ∷ es) t) ≡ (is_well_formed (take (insert_bytes (entry k n ∷ es)) t) && starts_with_char (entry k n ∷ es) t)
starts_step k n es t h ih (inl p) = rw p (λ l. ih t l)
starts_step k n es t h ih (inr (inl p)) =
    rw p (λ l. ap (λ b. is_well_formed (take n t) && b) (ih (drop n t) (simp length-drop (omega arith))) ∙ insert_front n (insert_bytes es) t (starts_with_char es (drop n t)) h l (starts_loose es (drop n t)))
starts_step k n es t h ih (inr (inr p)) = rw p (λ l. ih t l)

-- each insert is well-formed where all the text is, and none begins with a continuation
starts_well : (es : List Entry) (t : List ℕ) → T (all_of sound_entry es) → insert_bytes es ≤ length t → all_of well_inserted (operations es t) ≡ (is_well_formed (take (insert_bytes es) t) && starts_with_char es t)
starts_well [] t s l = refl
starts_well (e ∷ es) t s l =
    let (a, b) = (both (sound_entry e) (all_of sound_entry es)).0 s in
    let (c, d) = (both (within 1 3 e.kind) _).0 a in
    starts_step e.kind e.count es t (leb→le 1 e.count d) (λ u k. starts_well es u b k) (sound_kind e.kind c) l

-- none does where the text has as many characters as bytes
plain_starts : (es : List Entry) (t : List ℕ) → T (all_of sound_entry es) → insert_bytes es ≤ length t → insert_bytes es ≤ number_of_chars (take (insert_bytes es) t) → starts_with_char es t ≡ true
plain_starts [] t s l h = refl
plain_starts (e ∷ es) t s l h =
    let (a, b) = (both (sound_entry e) (all_of sound_entry es)).0 s in
    let (c, d) = (both (within 1 3 e.kind) _).0 a in
    go (eqb e.kind 2) (leb→le 1 e.count d) l h (λ u k x. plain_starts es u b k x)
  where
    go : (f : Bool) → 1 ≤ e.count → cond f (e.count + insert_bytes es) (insert_bytes es) ≤ length t → cond f (e.count + insert_bytes es) (insert_bytes es) ≤ number_of_chars (take (cond f (e.count + insert_bytes es) (insert_bytes es)) t)
        → ((u : List ℕ) → insert_bytes es ≤ length u → insert_bytes es ≤ number_of_chars (take (insert_bytes es) u) → starts_with_char es u ≡ true)
        → cond f (not (is_continuation (get_or t 0 0)) && starts_with_char es (drop e.count t)) (starts_with_char es t) ≡ true
    go true x l h ih =
        let n = e.count in
        let m = insert_bytes es in
        let u = chars_part n m t in
        let v = num_le (take n t) in
        let w = num_le (take m (drop n t)) in
        let y = length-take-le n t (omega arith) in
        let z = length-take-le m (drop n t) (simp length-drop (omega arith)) in
        rw (plain_first n t x (omega arith) (omega arith), ih (drop n t) (simp length-drop (omega arith)) (omega arith))
    go false x l h ih = ih t l h

-- ---- where the text of an operation begins

pub reached_start : (r : List ℕ) (n at : ℕ) → Sound r → n ≡ op_count_of r → at ≡ start_of_text n → Reached r 0 at
unfolding entries
reached_start r n at s e f =
    record {
      whole = s.room;
      ends = rw (sub-zero (op_count_of r)) (omega (arith, s.adds_up));
      left = sym (left_all r s.adds_up) ∙ ap (byte_ops_left r 0) (sym (f ∙ ap start_of_text e));
    }

module _ (r : List ℕ) (n k at kind : ℕ) (h : k < n) (e : n ≡ op_count_of r) (g : Reached r k at) (f : kind ≡ kind_at r k) where
  past : drop (k + 1) (byte_ops r) ≡ drop 1 (byte_ops_left r k at)
  past = sym (drop-drop 1 k (byte_ops r)) ∙ ap (drop 1) g.left

  pub reached_other : (kind ≡ 2 → ⊥) → Reached r (k + 1) at
  reached_other z =
      record {
        whole = g.whole;
        ends = omega (arith, inserts_same r k (omega arith) (λ y. z (f ∙ y)), g.ends);
        left = past ∙ left_other r k (omega arith) at (λ y. z (f ∙ y));
      }

  module _ (count : ℕ) (c : count ≡ count_at r k) (z : kind ≡ 2) where
    pub reached_room : at + count ≤ length r
    reached_room = omega (arith, inserts_more r k (omega arith) (sym f ∙ z), g.ends, g.whole)

    pub reached_insert : Reached r (k + 1) (at + count)
    reached_insert =
        record {
          whole = g.whole;
          ends = omega (arith, inserts_more r k (omega arith) (sym f ∙ z), g.ends);
          left = past ∙ ap (drop 1) (left_insert r k (omega arith) at (sym f ∙ z)) ∙ ap (λ j. byte_ops_left r (k + 1) (at + j)) (sym c);
        }

pub record Reach (r : List ℕ) (k : ℕ) : Type 0 where
  pub at : ℕ
  pub reached : Reached r k at

-- every operation's text begins somewhere
pub reach : (r : List ℕ) → Sound r → (k : ℕ) → k ≤ op_count_of r → Reach r k
reach r s zero h = record { at = start_of_text (op_count_of r); reached = reached_start r (op_count_of r) (start_of_text (op_count_of r)) s refl refl }
reach r s (suc k) h = go (eqb (kind_at r k) 2) refl (reach r s k (omega arith))
  where
    go : (b : Bool) → eqb (kind_at r k) 2 ≡ b → Reach r k → Reach r (suc k)
    go true e g = record { at = g.at + count_at r k; reached = rw (← add-one k) (reached_insert r (op_count_of r) k g.at (kind_at r k) h refl g.reached refl (count_at r k) refl (eqb-true (kind_at r k) 2 e)) }
    go false e g = record { at = g.at; reached = rw (← add-one k) (reached_other r (op_count_of r) k g.at (kind_at r k) h refl g.reached refl (eqb-false (kind_at r k) 2 e)) }

-- ---- whether inserts begin with a continuation

-- from operation k on, with its text at `at`, it comes to w
pub record Starting (r : List ℕ) (k at : ℕ) (w : Bool) : Type 0 where
  pub sound : T (all_of sound_entry (entries_left r k))
  pub reached : Reached r k at
  pub same : starts_with_char (entries_left r k) (drop at r) ≡ w

pub starting : (r : List ℕ) (n at : ℕ) → Sound r → n ≡ op_count_of r → at ≡ start_of_text n → Starting r 0 at (starts_with_char (entries r) (drop (start_of_text n) r))
unfolding entries
starting r n at s e f =
    let z = sub-zero (op_count_of r) in
    record {
      sound = rw z s.entries_sound;
      reached = reached_start r n at s e f;
      same = ap₂ (λ m i. starts_with_char (entries_from r 0 m) (drop i r)) z f;
    }

pub starting_end : (r : List ℕ) (n k at : ℕ) {w : Bool} → n ≤ k → n ≡ op_count_of r → Starting r k at w → true ≡ w
starting_end r n k at h e g = sym (ap (λ es. starts_with_char es (drop at r)) (entries_done r k (omega arith))) ∙ g.same

module _ (r : List ℕ) (n k at kind : ℕ) {w : Bool} (h : k < n) (e : n ≡ op_count_of r) (g : Starting r k at w) (f : kind ≡ kind_at r k) where
  front : starts_with_char (entry_at r k ∷ entries_left r (k + 1)) (drop at r) ≡ w
  front = sym (ap (λ es. starts_with_char es (drop at r)) (entries_next r k (omega arith))) ∙ g.same

  pub starting_other : (kind ≡ 2 → ⊥) → Starting r (k + 1) at w
  starting_other z =
      record {
        sound = (sound_next r k (omega arith) g.sound).rest;
        reached = reached_other r n k at kind h e g.reached f z;
        same = rw (ne_eqb (kind_at r k) 2 (λ y. z (f ∙ y))) at front;
      }

  module _ (count : ℕ) (c : count ≡ count_at r k) (z : kind ≡ 2) where
    pub starting_fits : at + count ≤ length r
    starting_fits = reached_room r n k at kind h e g.reached f count c z

    pub starting_room : at < length r
    starting_room = let l = starting_fits in let m = (sound_next r k (omega arith) g.sound).some in omega arith

    module _ (b : Bool) (p : b ≡ is_continuation (get_or r at 0)) where
      first : not b && starts_with_char (entries_left r (k + 1)) (drop (at + count) r) ≡ w
      first =
          ap₂ (λ x j. not x && starts_with_char (entries_left r (k + 1)) (drop j r)) (p ∙ ap (λ j. is_continuation (get_or r j 0)) (sym (add-zero at)) ∙ ap is_continuation (sym (get_or-drop at r 0 0))) (ap (λ j. at + j) c)
          ∙ ap (λ l. not (is_continuation (get_or (drop at r) 0 0)) && starts_with_char (entries_left r (k + 1)) l) (sym (drop-drop (count_at r k) at r))
          ∙ rw (eq-eqb (kind_at r k) 2 (sym f ∙ z)) at front

      pub starting_ill : b ≡ true → false ≡ w
      starting_ill x = rw x at first

      pub starting_insert : b ≡ false → Starting r (k + 1) (at + count) w
      starting_insert x =
          record {
            sound = (sound_next r k (omega arith) g.sound).rest;
            reached = reached_insert r n k at kind h e g.reached f count c z;
            same = rw x at first;
          }

-- from operation k on it comes to w, or there is none from k on
pub record Began (r : List ℕ) (n k at : ℕ) (w : Bool) : Type 0 where
  pub here : k ≤ n → Starting r k at w
  pub past : n ≤ k → true ≡ w

pub began : (r : List ℕ) (n k at : ℕ) {w : Bool} → n ≡ op_count_of r → Starting r k at w → Began r n k at w
began r n k at e s = record { here = λ h. s; past = λ h. starting_end r n k at h e s }

not_twice : (k l : ℕ) → can_follow k l ≡ true → k ≡ 2 → l ≡ 2 → ⊥
unfolding can_follow
not_twice k l f p q = absurd (known (sym (ap₂ can_follow p q) ∙ f))

-- behind an insert, where all neighbours may stand so, one operation is passed without a look
module _ (r : List ℕ) (n k at : ℕ) {w : Bool} (s : Sound r) (e : n ≡ op_count_of r) (z : kind_at r k ≡ 2) (g : Starting r (k + 1) at w) where
  began_second : chained (byte_ops r) ≡ true → k + 1 < n → Starting r (k + 1 + 1) at w
  began_second p h =
      let f = ordered_follow r n k e s.entries_sound p h in
      starting_other r n (k + 1) at (kind_at r (k + 1)) h e g refl (λ y. not_twice (kind_at r k) (kind_at r (suc k)) f z (ap (kind_at r) (sym (add-one k)) ∙ y))

  pub began_behind : (b : Bool) (m : ℕ) → b ≡ chained (byte_ops r) → m ≡ picked b 1 → Began r n (k + m + 1) at w
  began_behind true m p q =
      rw q
      (record {
        here = λ h. began_second (sym p) (omega arith);
        past = λ h. go (leb n (k + 1)) refl h;
      })
    where
      go : (b : Bool) → leb n (k + 1) ≡ b → n ≤ k + 1 + 1 → true ≡ w
      go true u h = starting_end r n (k + 1) at (leb-true n (k + 1) u) e g
      go false u h = starting_end r n (k + 1 + 1) at h e (began_second (sym p) (leb-false n (k + 1) u))
  began_behind false m p q = rw (q, add-zero k) (began r n (k + 1) at e g)

-- ---- all inserts at once

module _ (r : List ℕ) (n t from : ℕ) (s : Sound r) (e : n ≡ op_count_of r) (f : t ≡ text_bytes_of r) (g : from ≡ start_of_text n) where
  part : take (from + t - from) (drop from r) ≡ text_of r
  unfolding text_of
  part = let z : from + t - from ≡ text_bytes_of r = omega arith in ap₂ (λ m i. take m (drop i r)) z (g ∙ ap start_of_text e)

  each : all_of well_inserted (byte_ops r) ≡ (is_well_formed (text_of r) && starts_with_char (entries r) (drop (start_of_text n) r))
  unfolding byte_ops_left entries text_of
  each =
      let es = entries_from r 0 (op_count_of r) in
      let u = drop (start_of_text (op_count_of r)) r in
      ap (all_of well_inserted) (sym (left_all r s.adds_up) ∙ ap (λ m. operations (entries_from r 0 m) u) (sub-zero (op_count_of r)))
      ∙ starts_well es u s.entries_sound (simp length-drop (omega (arith, s.room, s.adds_up)))
      ∙ ap₂ (λ m i. is_well_formed (take m u) && starts_with_char es (drop (start_of_text i) r)) s.adds_up (sym e)

  module _ (x : Option ℕ) (p : x ≡ form_of (take (from + t - from) (drop from r))) where
    of_text : x ≡ form_of (text_of r)
    of_text = p ∙ ap form_of part

    pub text_ill : x ≡ None → None ≡ inserted_of r
    unfolding inserted_of
    text_ill y = rw (each, sym (form_ill (text_of r) x of_text y))

    module _ {chars : ℕ} (y : x ≡ Some chars) where
      well : is_well_formed (text_of r) ≡ true
      well = sym (form_well (text_of r) x of_text y)

      num : chars ≡ number_of_chars (text_of r)
      num = form_num (text_of r) x of_text y

      settled : (b : Bool) → b ≡ true → b ≡ starts_with_char (entries r) (drop (start_of_text n) r) → Some chars ≡ inserted_of r
      unfolding inserted_of
      settled b y z = rw (each, well, sym z ∙ y) (ap Some num)

      pub text_starts : (b : Bool) → b ≡ starts_with_char (entries r) (drop (start_of_text n) r) → not b ≡ false → Some chars ≡ inserted_of r
      text_starts b z y = settled b (not-false b y) z

      pub text_stops : (b : Bool) → b ≡ starts_with_char (entries r) (drop (start_of_text n) r) → not b ≡ true → None ≡ inserted_of r
      unfolding inserted_of
      text_stops b z y = rw (each, well, sym z ∙ not-true b y)

      pub text_plain : t ≤ chars → Some chars ≡ inserted_of r
      unfolding text_of
      text_plain h =
          let u = drop (start_of_text (op_count_of r)) r in
          let v : insert_bytes (entries r) ≤ number_of_chars (take (insert_bytes (entries r)) u) = omega (arith, num ∙ ap (λ m. number_of_chars (take m u)) (sym s.adds_up), s.adds_up) in
          settled true refl (sym (ap (λ i. starts_with_char (entries r) (drop (start_of_text i) r)) e ∙ plain_starts (entries r) u s.entries_sound (simp length-drop (omega (arith, s.room, s.adds_up))) v))

-- where there is no text, none is looked at
pub no_text : (r : List ℕ) (n t : ℕ) → Sound r → n ≡ op_count_of r → t ≡ text_bytes_of r → t ≡ 0 → Some 0 ≡ inserted_of r
unfolding form_of
no_text r n t s e f z =
    let from = start_of_text n in
    let k : 0 ≡ from + t - from = omega arith in
    text_plain r n t from s e f refl (Some 0) (ap (λ k. form_of (take k (drop from r))) k) refl (omega arith)
