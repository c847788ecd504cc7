-- Fronts: loaded, cut, and what stays of them.
use Rattle.std.specs.Prelude.{◌≡◌, ℕ, zero, suc, ◌+◌, ◌-◌, ◌<◌, ◌≤◌, Bool, true, false, T, eqb, List, [], ◌∷◌, ◌++◌, map, length, take, drop}
use Prim.Native.Nat.{zero-le}
use native.Mathlib.Nat.{sub-zero, zero-add}
use native.Mathlib.Omega.{arith}
use mathlib.Core.Path.{ap, ◌∙◌, refl, sym, ap₂, subst}
use lib.ListN.{length-take, length-drop, length-append}
use borrow.Author.Tests.{eq-eqb, ne_eqb, eqb-true, eqb-false}
use lib.Seq.{length-take-le, take_all, take-take, drop-drop, take_at, drop_at}
use Rattle.buffers.specs.Lists.{all_of, concat}
use Rattle.buffers.proofs.Tests.{both, holds}
use Rattle.characters.specs.Text.{chars, Char, bytes}
use Rattle.characters.specs.Form.{within, is_well_formed}
use Rattle.characters.specs.Chars.{number_of_chars, chars_of, take_chars}
use Rattle.characters.proofs.Texts.{chars_length, bytes_chars, bytes_take, bytes_split, chars_bytes, bytes_well}
use Rattle.characters.proofs.Leads.{inside, within_bounds}
use Rattle.characters.proofs.Chars.{num_le, well_all}
use Rattle.characters.proofs.Places.{skips_plain}
use Rattle.edits.specs.Op.{retain, insert, delete, size, if_zero, Op, cut, rest}
use Rattle.record.specs.Layout.{op_count_of, start_of_text, text_bytes_of, size_of, kind_at, count_at, max_ops, max_record}
use Rattle.record.specs.Record.{entry_at, entries_from, entries, sound_entry, record_fault, in_chars, ops, insert_bytes, well_inserted, in_bytes, inserted}
use Rattle.record.specs.InnerFront.{Place, byte_ops_left, ops_left, ahead, Loads, front_text, front_op, Stands, entries_left, Cut, Leaves}
use Rattle.record.specs.declared.inner.Front.{Front}
use Rattle.record.proofs.Faults.{limits, faultless}
use Rattle.record.proofs.Walks.{left_all, left_done, left_retain, left_insert, left_delete, inserts_more, inserts_same, SoundNext, sound_next, drop_take}
use Rattle.record.proofs.Sequences.{in_chars_size}

-- ---- the start of a record

pub place_start : (r : List ℕ) (n at : ℕ) → record_fault r ≡ 0 → n ≡ op_count_of r → at ≡ start_of_text n → Place r 0 at
unfolding entries
place_start r n at z e p =
    let f = (faultless r).0 z in
    let l = (limits r).0 f.in_limits in
    let u = sub-zero (op_count_of r) in
    record {
      few = l.ops;
      header = omega (arith, l.whole);
      index = omega arith;
      room = rw u (omega (arith, l.whole, f.adds_up));
      sound = rw u f.sound;
      texts = rw (p, e, left_all r f.adds_up) f.texts;
    }

pub ops_start : (r : List ℕ) (n at : ℕ) → record_fault r ≡ 0 → n ≡ op_count_of r → at ≡ start_of_text n → ops_left r 0 at ≡ ops r
unfolding ops_left ops
ops_start r n at z e p =
    let f = (faultless r).0 z in
    ap (map in_chars) (ap (byte_ops_left r 0) (p ∙ ap start_of_text e) ∙ left_all r f.adds_up)

pub fault_header : (r : List ℕ) → record_fault r ≡ 0 → 8 ≤ length r
fault_header r z = ((limits r).0 ((faultless r).0 z).in_limits).header

pub fault_kinds : (r : List ℕ) → record_fault r ≡ 0 → start_of_text (op_count_of r) ≤ length r
fault_kinds r z = omega (arith, ((limits r).0 ((faultless r).0 z).in_limits).whole)

pub fault_few : (r : List ℕ) (n : ℕ) → record_fault r ≡ 0 → n ≡ op_count_of r → n ≤ max_ops
fault_few r n z e = omega (arith, ((limits r).0 ((faultless r).0 z).in_limits).ops)

-- each of its kinds is one of the three
sound_at : (r : List ℕ) (i n k : ℕ) → k < n → T (all_of sound_entry (entries_from r i n)) → T (sound_entry (entry_at r (i + k)))
sound_at r i zero k h s = absurd (omega arith)
sound_at r i (suc n) zero h s = let e : i + 0 ≡ i = omega arith in subst (λ j. T (sound_entry (entry_at r j))) (sym e) ((both (sound_entry (entry_at r i)) _).0 s).0
sound_at r i (suc n) (suc k) h s =
    let e : suc i + k ≡ i + suc k = omega arith in
    subst (λ j. T (sound_entry (entry_at r j))) e (sound_at r (suc i) n k (omega arith) ((both (sound_entry (entry_at r i)) _).0 s).1)

pub fault_kind : (r : List ℕ) (k : ℕ) → record_fault r ≡ 0 → k < op_count_of r → (1 ≤ kind_at r k) × (kind_at r k ≤ 3)
unfolding entries
fault_kind r k z h =
    let s : T (sound_entry (entry_at r k)) = subst (λ j. T (sound_entry (entry_at r j))) (zero-add k) (sound_at r 0 (op_count_of r) k h ((faultless r).0 z).sound) in
    within_bounds 1 3 (kind_at r k) ((both (within 1 3 (kind_at r k)) _).0 s).0

module _ (r : List ℕ) {n t z : ℕ} (e : z ≡ start_of_text n) (p : n ≡ op_count_of r) (q : t ≡ text_bytes_of r) where
  pub fault_size : z + t ≡ size_of r
  fault_size = cc (e, p, q)

  pub fault_small : record_fault r ≡ 0 → z + t ≤ max_record
  fault_small f = let h = (limits r).0 ((faultless r).0 f).in_limits in omega (arith, h.ops, h.text_bytes, e, p, q)

  pub fault_whole : record_fault r ≡ 0 → z + t ≤ length r
  fault_whole f = rw fault_size ((limits r).0 ((faultless r).0 f).in_limits).whole

-- what lies ahead of the first front is the whole sequence
pub first_ahead : (r : List ℕ) (n at : ℕ) (f : Front) → record_fault r ≡ 0 → n ≡ op_count_of r → at ≡ start_of_text n → Loads r 0 at f → ahead r f ≡ ops r
first_ahead r n at f z e p l = l.has ∙ ops_start r n at z e p

-- ---- the operation of a front

module _ (r : List ℕ) (f : Front) where
  pub op_retain : f.kind ≡ 1 → front_op r f ≡ retain f.left
  op_retain e = rw (eq-eqb f.kind 1 e)

  pub op_insert : f.kind ≡ 2 → front_op r f ≡ insert (chars (front_text r f))
  op_insert e = rw (ne_eqb f.kind 1 (λ z. absurd (omega arith)), eq-eqb f.kind 2 e)

  pub op_delete : (f.kind ≡ 1 → ⊥) → (f.kind ≡ 2 → ⊥) → front_op r f ≡ delete f.left
  op_delete p q = rw (ne_eqb f.kind 1 p, ne_eqb f.kind 2 q)

  -- a front has one of three kinds of operation
  pub data Kinds : Type 0 where
    retains : f.kind ≡ 1 → front_op r f ≡ retain f.left → Kinds
    inserts : f.kind ≡ 2 → front_op r f ≡ insert (chars (front_text r f)) → Kinds
    deletes : (f.kind ≡ 1 → ⊥) → (f.kind ≡ 2 → ⊥) → front_op r f ≡ delete f.left → Kinds

  pub kinds : Kinds
  kinds = go (eqb f.kind 1) (eqb f.kind 2) refl refl
    where
      go : (a b : Bool) → eqb f.kind 1 ≡ a → eqb f.kind 2 ≡ b → Kinds
      go true b p q = let e = eqb-true f.kind 1 p in retains e (op_retain e)
      go false true p q = let e = eqb-true f.kind 2 q in inserts e (op_insert e)
      go false false p q = let d = eqb-false f.kind 1 p in let e = eqb-false f.kind 2 q in deletes d e (op_delete d e)

module _ (r : List ℕ) (f : Front) (s : Stands r f) where
  text_length : f.kind ≡ 2 → length (chars (front_text r f)) ≡ f.left
  text_length e = let (w, l) = s.text e in chars_length (front_text r f) w ∙ sym l

  pub front_size : size (front_op r f) ≡ f.left
  front_size = go (kinds r f)
    where
      go : Kinds r f → size (front_op r f) ≡ f.left
      go (retains e p) = ap size p
      go (inserts e p) = ap size p ∙ text_length e
      go (deletes d e p) = ap size p

-- ---- loading

pub some_ahead : (r : List ℕ) (f : Front) → 0 < f.left → ahead r f ≡ front_op r f ∷ ops_left r f.next f.to
unfolding ahead
some_ahead r f h = go f.left h
  where
    go : (n : ℕ) → 0 < n → if_zero n [] (front_op r f ∷ ops_left r f.next f.to) ≡ front_op r f ∷ ops_left r f.next f.to
    go zero h = absurd (omega arith)
    go (suc n) h = refl

pub ended_ahead : (r : List ℕ) (f : Front) → Stands r f → f.kind ≡ 0 → ahead r f ≡ []
unfolding ahead
ended_ahead r f s e = rw (s.ended e)

-- the operations from k on begin with the operation o, and the text of those behind it begins at `to`
pub record Begins (r : List ℕ) (k at : ℕ) (o : Op Char) (to : ℕ) : Type 0 where
  pub place : Place r (k + 1) to
  pub has : ops_left r k at ≡ o ∷ ops_left r (k + 1) to

pub begins_none : (r : List ℕ) (n k at : ℕ) → n ≡ op_count_of r → n ≤ k → ops_left r k at ≡ []
unfolding ops_left
begins_none r n k at e h = ap (map in_chars) (left_done r k at (omega arith))

pub load_end : (r : List ℕ) (n k at : ℕ) → n ≡ op_count_of r → Place r k at → n ≤ k → Loads r k at (record { kind = 0; left = 0; from = at; to = at; next = k })
unfolding ahead within
load_end r n k at e p h =
    record {
      stands = record {
        place = p;
        known = tt;
        ended = λ z. refl;
        some = λ z. absurd (omega arith);
        small = omega arith;
        part = omega arith;
        text = λ z. absurd (omega arith);
        none = λ z. refl;
      };
      has = sym (begins_none r n k at e h);
    }

-- the operation at k, as the code finds it
module _ (r : List ℕ) (n k at kind count : ℕ) (e : n ≡ op_count_of r) (p : Place r k at) (h : k < n) (q : kind ≡ kind_at r k) (c : count ≡ count_at r k) (small : count < 65536) where
  in_range : k < op_count_of r
  in_range = omega arith

  next : SoundNext r k in_range
  next = sound_next r k in_range p.sound

  place_next : (o : Op ℕ) (to : ℕ) → byte_ops_left r k at ≡ o ∷ byte_ops_left r (k + 1) to → to + insert_bytes (entries_left r (k + 1)) ≤ length r → Place r (k + 1) to
  place_next o to i room =
      record {
        few = p.few;
        header = p.header;
        index = omega arith;
        room = room;
        sound = next.rest;
        texts = ((both (well_inserted o) _).0 (rw i at p.texts)).1;
      }

  known : T (within 0 3 kind)
  known = rw (inside 0 3 kind (omega arith) (omega (arith, next))) tt

  begins : (o : Op ℕ) (to : ℕ) → byte_ops_left r k at ≡ o ∷ byte_ops_left r (k + 1) to → to + insert_bytes (entries_left r (k + 1)) ≤ length r → Begins r k at (in_chars o) to
  unfolding ops_left
  begins o to i room = record { place = place_next o to i room; has = ap (map in_chars) i }

  -- an operation without text
  module _ (z : kind ≡ 2 → ⊥) where
    same_room : at + insert_bytes (entries_left r (k + 1)) ≤ length r
    same_room = omega (arith, inserts_same r k in_range (λ y. z (q ∙ y)), p.room)

    retain_begins : kind ≡ 1 → Begins r k at (retain count) at
    unfolding in_chars
    retain_begins d = begins (retain count) at (left_retain r k in_range at (sym q ∙ d) ∙ ap (λ j. retain j ∷ byte_ops_left r (k + 1) at) (sym c)) same_room

    delete_begins : (kind ≡ 1 → ⊥) → Begins r k at (delete count) at
    unfolding in_chars
    delete_begins d = begins (delete count) at (left_delete r k in_range at (λ x. d (q ∙ x)) (λ x. z (q ∙ x)) ∙ ap (λ j. delete j ∷ byte_ops_left r (k + 1) at) (sym c)) same_room

    other : (o : Op Char) → Begins r k at o at → (f : Front) → f ≡ record { kind = kind; left = count; from = at; to = at; next = k + 1 } → front_op r f ≡ o → Loads r k at f
    other o b f g w =
        rw g (record {
          stands = record {
            place = b.place;
            known = known;
            ended = λ y. absurd (omega (arith, next));
            some = λ y. omega (arith, next);
            small = small;
            part = omega arith;
            text = λ y. absurd (z y);
            none = λ y. refl;
          };
          has = some_ahead r _ (omega (arith, next)) ∙ ap (λ x. x ∷ ops_left r (k + 1) at) (rw g at w) ∙ sym b.has;
        })

    pub load_other : Loads r k at (record { kind = kind; left = count; from = at; to = at; next = k + 1 })
    load_other = go (eqb kind 1) refl
      where
        f : Front
        f = record { kind = kind; left = count; from = at; to = at; next = k + 1 }

        go : (b : Bool) → eqb kind 1 ≡ b → Loads r k at f
        go true y = let d = eqb-true kind 1 y in other (retain count) (retain_begins d) f refl (op_retain r f d)
        go false y = let d = eqb-false kind 1 y in other (delete count) (delete_begins d) f refl (op_delete r f d z)

  pub begins_retain : kind ≡ 1 → Begins r k at (retain count) at
  begins_retain d = retain_begins (λ z. absurd (omega arith)) d

  pub begins_delete : (kind ≡ 1 → ⊥) → (kind ≡ 2 → ⊥) → Begins r k at (delete count) at
  begins_delete d z = delete_begins z d

  module _ (z : kind ≡ 2) where
    pub load_room : at + count ≤ length r
    load_room = omega (arith, inserts_more r k in_range (sym q ∙ z), p.room)

    text : List ℕ
    text = take (at + count - at) (drop at r)

    split : byte_ops_left r k at ≡ insert text ∷ byte_ops_left r (k + 1) (at + count)
    unfolding text
    split =
        let y : at + count - at ≡ count = omega arith in
        left_insert r k in_range at (sym q ∙ z) ∙ ap₂ (λ i j. insert i ∷ byte_ops_left r (k + 1) (at + j)) (ap (λ j. take j (drop at r)) (sym c ∙ sym y)) (sym c)

    pub begins_well : T (is_well_formed (take (at + count - at) (drop at r)))
    unfolding text
    begins_well = ((both (well_inserted (insert text)) _).0 (rw split at p.texts)).0

    pub begins_insert : Begins r k at (insert (chars (take (at + count - at) (drop at r)))) (at + count)
    unfolding text in_chars
    begins_insert = begins (insert text) (at + count) split (omega (arith, inserts_more r k in_range (sym q ∙ z), p.room))

    some : 0 < number_of_chars text
    unfolding text in_chars
    some =
        let l : length text ≡ count = length-take-le (at + count - at) (drop at r) (simp length-drop (omega (arith, load_room))) ∙ omega arith in
        omega (arith, chars_length text begins_well, in_chars_size (insert text) begins_well (omega (arith, l, next)))

    pub load_insert : (n : ℕ) → n ≡ number_of_chars (take (at + count - at) (drop at r)) → Loads r k at (record { kind = kind; left = n; from = at; to = at + count; next = k + 1 })
    unfolding text
    load_insert n m =
        let f : Front = record { kind = kind; left = n; from = at; to = at + count; next = k + 1 } in
        record {
          stands = record {
            place = begins_insert.place;
            known = known;
            ended = λ y. absurd (omega arith);
            some = λ y. omega (arith, some);
            small = omega (arith, num_le text, length-take (at + count - at) (drop at r));
            part = omega arith;
            text = λ y. (begins_well, m);
            none = λ y. absurd (y z);
          };
          has = some_ahead r f (omega (arith, some)) ∙ ap (λ x. x ∷ ops_left r (k + 1) (at + count)) (op_insert r f z) ∙ sym begins_insert.has;
        }

-- ---- cutting

module _ (r : List ℕ) (f : Front) (s : Stands r f) (k : ℕ) where
  -- the text, cut after k characters
  first_part : f.kind ≡ 2 → inserted (in_bytes (cut k (front_op r f))) ≡ bytes (take k (chars (front_text r f)))
  unfolding in_bytes
  first_part e = ap (λ o. inserted (in_bytes (cut k o))) (op_insert r f e)

  second_part : f.kind ≡ 2 → inserted (in_bytes (rest k (front_op r f))) ≡ bytes (drop k (chars (front_text r f)))
  unfolding in_bytes
  second_part e = ap (λ o. inserted (in_bytes (rest k o))) (op_insert r f e)

  -- other operations have no text
  no_text : (f.kind ≡ 2 → ⊥) → ([] ≡ inserted (in_bytes (cut k (front_op r f)))) × ([] ≡ inserted (in_bytes (rest k (front_op r f))))
  unfolding in_bytes
  no_text z = go (kinds r f)
    where
      go : Kinds r f → ([] ≡ inserted (in_bytes (cut k (front_op r f)))) × ([] ≡ inserted (in_bytes (rest k (front_op r f))))
      go (retains e p) = (ap (λ o. inserted (in_bytes (cut k o))) (sym p), ap (λ o. inserted (in_bytes (rest k o))) (sym p))
      go (inserts e p) = absurd (z e)
      go (deletes d e p) = (ap (λ o. inserted (in_bytes (cut k o))) (sym p), ap (λ o. inserted (in_bytes (rest k o))) (sym p))

  -- a cut at a place of the text that parts it in two
  parts : (mid : ℕ) → f.from ≤ mid → mid ≤ f.to → (f.kind ≡ 2 → mid - f.from ≡ length (bytes (take k (chars (front_text r f))))) → Cut r f k mid
  parts mid a b h = go (eqb f.kind 2) refl
    where
      go : (t : Bool) → eqb f.kind 2 ≡ t → Cut r f k mid
      go true t =
          let e = eqb-true f.kind 2 t in
          let x = front_text r f in
          let w = (s.text e).0 in
          let p = bytes (take k (chars x)) in
          let q = bytes (drop k (chars x)) in
          let l : mid - f.from ≡ length p = h e in
          let j : mid - f.from + (f.to - mid) ≡ f.to - f.from = omega arith in
          let m : f.from + (mid - f.from) ≡ mid = omega arith in
          let pq : p ++ q ≡ x = bytes_split k x w in
          record {
            above = a;
            below = b;
            first =
                sym (take-take (mid - f.from) (f.to - f.from) (drop f.from r) (omega arith))
                ∙ ap (take (mid - f.from)) (sym pq)
                ∙ take_at p q (mid - f.from) (sym l)
                ∙ sym (first_part e);
            second =
                ap (λ i. take (f.to - mid) (drop i r)) (sym m)
                ∙ ap (take (f.to - mid)) (sym (drop-drop (mid - f.from) f.from r))
                ∙ sym (drop_take (mid - f.from) (f.to - mid) (drop f.from r))
                ∙ ap (λ i. drop (mid - f.from) (take i (drop f.from r))) j
                ∙ ap (drop (mid - f.from)) (sym pq)
                ∙ drop_at p q (mid - f.from) (sym l)
                ∙ sym (second_part e);
          }
      go false t =
          let z = eqb-false f.kind 2 t in
          let n = s.none z in
          let i : mid - f.from ≡ 0 = omega arith in
          let j : f.to - mid ≡ 0 = omega arith in
          record {
            above = a;
            below = b;
            first = ap (λ d. take d (drop f.from r)) i ∙ (no_text z).0;
            second = ap (λ d. take d (drop mid r)) j ∙ (no_text z).1;
          }

  text_size : length (front_text r f) ≡ f.to - f.from
  text_size = length-take-le (f.to - f.from) (drop f.from r) (simp length-drop (omega (arith, s.place.room, s.part)))

  pub cut_all : k ≡ f.left → Cut r f k f.to
  cut_all z =
      parts f.to s.part (omega arith)
      (λ e. sym (ap length (ap bytes (take_all k (chars (front_text r f)) (omega (arith, text_length r f s e))) ∙ bytes_chars (front_text r f) (s.text e).0) ∙ text_size))

  pub cut_none : f.from ≡ f.to → Cut r f k f.to
  cut_none z =
      parts f.to (omega arith) (omega arith)
      (λ e.
      let l : length (bytes (take k (chars (front_text r f))) ++ bytes (drop k (chars (front_text r f)))) ≡ 0 = ap length (bytes_split k (front_text r f) (s.text e).0) ∙ text_size ∙ omega arith in
      omega (arith, length-append (bytes (take k (chars (front_text r f)))) (bytes (drop k (chars (front_text r f)))), l))

  -- `skip` finds the place
  module _ (ne : f.from ≡ f.to → ⊥) where
    has_text : f.kind ≡ 2
    has_text = go (eqb f.kind 2) refl
      where
        go : (t : Bool) → eqb f.kind 2 ≡ t → f.kind ≡ 2
        go true t = eqb-true f.kind 2 t
        go false t = absurd (ne (s.none (eqb-false f.kind 2 t)))

    pub skip_well : T (is_well_formed (drop 0 (front_text r f)))
    skip_well = (s.text has_text).0

    -- where every character is one byte
    pub cut_plain : k ≤ f.left → f.to - f.from ≡ f.left → Cut r f k (f.from + k)
    cut_plain h e =
        let t = front_text r f in
        let n : number_of_chars t ≡ length t = omega (arith, (s.text has_text).1, text_size) in
        let p = skips_plain t 0 k zero-le skip_well n k (omega (arith, text_size)) in
        let l : k ≡ length (bytes (take k (chars t))) = omega (arith, ap length p.part, length-take (k - 0) t, text_size) in
        parts (f.from + k) (omega arith) (omega (arith, s.part)) (λ _. let i : f.from + k - f.from ≡ k = omega arith in i ∙ l)

    module _ (d : ℕ) (m : d ≡ 0 + length (take_chars k (drop 0 (front_text r f)))) where
      found : d ≡ length (bytes (take k (chars (front_text r f))))
      found = m ∙ zero-add _ ∙ ap length (ap (λ l. l ++ concat (take k (chars_of (front_text r f)))) (well_all (front_text r f) (holds (is_well_formed (front_text r f)) skip_well)).0 ∙ sym (bytes_take k (front_text r f) skip_well))

      pub skip_room : f.from + d ≤ f.to
      skip_room = omega (arith, found, ap length (bytes_split k (front_text r f) skip_well), length-append (bytes (take k (chars (front_text r f)))) (bytes (drop k (chars (front_text r f)))), text_size, s.part)

      pub cut_skip : Cut r f k (f.from + d)
      cut_skip = parts (f.from + d) (omega arith) skip_room (λ e. let i : f.from + d - f.from ≡ d = omega arith in i ∙ found)

-- ---- what stays in front

pub size_rest : {C : Type 0} (k : ℕ) (o : Op C) → size (rest k o) ≡ size o - k
size_rest k (retain n) = refl
size_rest k (insert x) = length-drop k x
size_rest k (delete n) = refl

module _ (r : List ℕ) (f : Front) (k : ℕ) (s : Stands r f) where
  pub rest_all : (g : Front) → k ≡ f.left → Loads r f.next f.to g → Leaves r f k g
  rest_all g z l = record { stands = l.stands; has = l.has ∙ sym (ap (λ n. if_zero n (ops_left r f.next f.to) (rest k (front_op r f) ∷ ops_left r f.next f.to)) nothing) }
    where
      nothing : size (rest k (front_op r f)) ≡ 0
      nothing = size_rest k (front_op r f) ∙ omega (arith, front_size r f s)

  module _ (h : k ≤ f.left) (mid : ℕ) (c : Cut r f k mid) (ne : k ≡ f.left → ⊥) where
    abbrev left_over : Front
    left_over = record { kind = f.kind; left = f.left - k; from = mid; to = f.to; next = f.next }

    rest_text : f.kind ≡ 2 → front_text r left_over ≡ bytes (drop k (chars (front_text r f)))
    rest_text e = c.second ∙ second_part r f s k e

    same_op : front_op r left_over ≡ rest k (front_op r f)
    same_op = go (kinds r f)
      where
        go : Kinds r f → front_op r left_over ≡ rest k (front_op r f)
        go (retains e p) = op_retain r left_over e ∙ ap (rest k) (sym p)
        go (inserts e p) = op_insert r left_over e ∙ ap insert (ap chars (rest_text e) ∙ chars_bytes _) ∙ ap (rest k) (sym p)
        go (deletes d e p) = op_delete r left_over d e ∙ ap (rest k) (sym p)

    pub rest_some : Leaves r f k left_over
    rest_some =
        record {
          stands = record {
            place = s.place;
            known = s.known;
            ended = λ z. omega (arith, s.ended z);
            some = λ z. omega arith;
            small = omega (arith, s.small);
            part = c.below;
            text = λ e. (rw (rest_text e) (bytes_well _), sym (ap number_of_chars (rest_text e) ∙ sym (chars_length _ (bytes_well _)) ∙ ap length (chars_bytes _) ∙ length-drop k _ ∙ ap (λ n. n - k) (text_length r f s e)));
            none = λ e. omega (arith, s.none e, c.above, c.below);
          };
          has = some_ahead r left_over (omega arith) ∙ ap (λ o. o ∷ ops_left r f.next f.to) same_op ∙ sym (whole (size (rest k (front_op r f))) (omega (arith, size_rest k (front_op r f), front_size r f s)));
        }
      where
        whole : (n : ℕ) → 0 < n → if_zero n (ops_left r f.next f.to) (rest k (front_op r f) ∷ ops_left r f.next f.to) ≡ rest k (front_op r f) ∷ ops_left r f.next f.to
        whole zero h = absurd (omega arith)
        whole (suc n) h = refl
