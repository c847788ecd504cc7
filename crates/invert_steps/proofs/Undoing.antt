-- Places in the text, what undoes an operation there, and the loop over the record's operations.
use Rattle.std.specs.Prelude.{◌≡◌, ℕ, ◌+◌, ◌-◌, ◌*◌, ◌^◌, ◌<◌, ◌≤◌, T, List, [], ◌∷◌, ◌++◌, length, take, drop}
use Prim.Native.Nat.{zero-le}
use native.Mathlib.Omega.{arith}
use mathlib.Core.Path.{refl, ap, sym, ap₂, ◌∙◌}
use mathlib.Core.List.{append_assoc, append-nil}
use lib.ListN.{length-append, length-drop, length-take}
use lib.Seq.{length-take-le}
use borrow.Author.Tests.{eq-eqb, ne_eqb}
use Rattle.characters.specs.Form.{is_well_formed}
use Rattle.characters.specs.Chars.{number_of_chars, take_chars}
use Rattle.characters.specs.InnerPlaces.{Passes}
use Rattle.characters.specs.Text.{chars, bytes, Char}
use Rattle.characters.proofs.Places.{skips, stays_there}
use Rattle.characters.proofs.Texts.{chars_bytes, chars_length, bytes_well}
use Rattle.characters.proofs.Widths.{bytes_most}
use Rattle.edits.specs.Op.{insert, delete, size, takes, base}
use Rattle.edits.specs.Sequence.{Seq}
use Rattle.edits.specs.Invert.{undo, undo_all, invert}
use Rattle.record.specs.declared.inner.Front.{Front}
use Rattle.record.specs.Record.{ops, record_fault}
use Rattle.record.specs.InnerFront.{ahead, Stands, front_op, Loads}
use Rattle.record.specs.Layout.{op_count_of, max_ops, base_of, start_of_text}
use Rattle.record.proofs.Records.{ops_base, ops_length}
use Rattle.reader.proofs.Fronts.{Kinds, retains, inserts, deletes, kinds, front_size, fault_few, some_ahead, ended_ahead}
use Rattle.emitter.specs.declared.inner.Emitter.{Emitter}
use Rattle.emitter.specs.InnerEmit.{nothing, Adds, Under, Retains, Finishes, Done, Writes, headed}
use Rattle.emitter.proofs.Adding.{adds_nil, adds_append, under_start, under_more}
use Rattle.emitter.proofs.Delivering.{builds}
use Rattle.invert_in_place.specs.InnerInverting.{inserted_back}
use Rattle.invert_steps.specs.InnerEmitting.{taken, undone}

-- ---- `after_taken`

module _ (t : List ℕ) (at : ℕ) (h : at ≤ length t) (w : T (is_well_formed (drop at t))) (f : Front) where
  pub stays : f.kind ≡ 2 → Passes t at (taken f) at
  stays e = rw (eq-eqb f.kind 2 e) (stays_there t at h w)

  pub moves : (to : ℕ) → (f.kind ≡ 2 → ⊥) → to ≡ at + length (take_chars f.left (drop at t)) → Passes t at (taken f) to
  moves to e p = rw (ne_eqb f.kind 2 e) (skips t at f.left h w to p)

-- ---- `emit_inverse`

module _ (t : List ℕ) (f : Front) (at to : ℕ) (p : Passes t at (taken f) to) where
  abbrev part : List Char
  part = take (taken f) (chars (drop at t))

  pub part_well : T (is_well_formed (take (to - at) (drop at t)))
  part_well = rw p.part (bytes_well part)

  -- of an operation that takes its characters from the text
  module _ (z : f.kind ≡ 2 → ⊥) where
    takes_left : taken f ≡ f.left
    takes_left = rw (ne_eqb f.kind 2 z)

    -- at most four bytes for each character
    pub part_few : f.left < 65536 → to - at ≤ 2 ^ 18
    part_few s =
        omega (
          arith,
          takes_left,
          length-take-le (to - at) (drop at t) (omega (arith, p.below, length-drop at t)),
          ap length p.part,
          bytes_most part,
          length-take (taken f) (chars (drop at t)),
        )

    pub part_count : taken f ≤ length (chars (drop at t)) → f.left ≡ number_of_chars (take (to - at) (drop at t))
    part_count l =
        omega (
          arith,
          takes_left,
          ap number_of_chars p.part,
          chars_length (bytes part) (bytes_well part),
          ap length (chars_bytes part),
          length-take (taken f) (chars (drop at t)),
        )

  module _ (n : ℕ) (e : Emitter) (o : List ℕ) (r : Emitter) where
    pub gives_retain : f.kind ≡ 1 → Retains f.left e r → Adds n (undone f (chars (drop at t)) ∷ []) e o r o
    gives_retain z a = rw (eq-eqb f.kind 1 z) (a.adds n o)

    module _ (y : f.kind ≡ 1 → ⊥) (o' : List ℕ) where
      pub gives_delete : f.kind ≡ 2 → Adds n (delete f.left ∷ []) e o r o' → Adds n (undone f (chars (drop at t)) ∷ []) e o r o'
      gives_delete z a = rw (ne_eqb f.kind 1 y, eq-eqb f.kind 2 z) a

      pub gives_insert : (f.kind ≡ 2 → ⊥) → Adds n (insert (chars (take (to - at) (drop at t))) ∷ []) e o r o' → Adds n (undone f (chars (drop at t)) ∷ []) e o r o'
      gives_insert z a =
          let x : chars (take (to - at) (drop at t)) ≡ take f.left (chars (drop at t)) =
          ap chars p.part ∙ chars_bytes part ∙ ap (λ j. take j (chars (drop at t))) (takes_left z) in
          rw (ne_eqb f.kind 1 y, ne_eqb f.kind 2 z) (rw x at a)

-- ---- a front's operation

module _ (r : List ℕ) (f : Front) (s : Stands r f) where
  taken_is : taken f ≡ takes (front_op r f)
  taken_is = go (kinds r f)
    where
      go : Kinds r f → taken f ≡ takes (front_op r f)
      go (retains e p) = rw (eq-eqb f.kind 1 e, ne_eqb f.kind 2 (λ z. absurd (omega arith)))
      go (inserts e p) = rw (ne_eqb f.kind 1 (λ z. absurd (omega arith)), eq-eqb f.kind 2 e)
      go (deletes d e p) = rw (ne_eqb f.kind 1 d, ne_eqb f.kind 2 e)

  undone_is : (t : List Char) → undone f t ≡ undo (front_op r f) t
  undone_is t = go (kinds r f)
    where
      go : Kinds r f → undone f t ≡ undo (front_op r f) t
      go (retains e p) = rw (eq-eqb f.kind 1 e)
      go (inserts e p) = rw (ne_eqb f.kind 1 (λ z. absurd (omega arith)), eq-eqb f.kind 2 e) (ap delete (sym (front_size r f s) ∙ ap size p))
      go (deletes d e p) = rw (ne_eqb f.kind 1 d, ne_eqb f.kind 2 e)

-- ---- `write_emitted`

-- what was emitted, and what undoes all that lies ahead, undo the whole; the text has left just the characters that it takes
pub record Going (n : ℕ) (r t out : List ℕ) (f : Front) (at : ℕ) (e : Emitter) (o : List ℕ) : Type 0 where
  pub limited : n ≤ max_ops
  pub stands : Stands r f
  pub inside : at ≤ length t
  pub well : T (is_well_formed (drop at t))
  pub takes_all : length (chars (drop at t)) ≡ base (ahead r f)
  pub done : Seq
  pub few : length done + length (ahead r f) ≤ max_ops
  pub adds : Adds n done nothing out e o
  pub all : done ++ undo_all (ahead r f) (chars (drop at t)) ≡ undo_all (ops r) (chars t)

pub going_start : (n : ℕ) (r t o : List ℕ) (f : Front) (e : Emitter) → record_fault r ≡ 0 → n ≡ op_count_of r → T (is_well_formed t) → number_of_chars t ≡ base_of r → Stands r f → ahead r f ≡ ops r → e ≡ nothing → Going n r t o f 0 e o
going_start n r t o f e z c w b s h p =
    record {
      limited = fault_few r n z c;
      stands = s;
      inside = zero-le;
      well = w;
      takes_all = chars_length t w ∙ b ∙ sym (ops_base r z) ∙ ap base (sym h);
      done = [];
      few = omega (arith, ap length h, ops_length r z, c, fault_few r n z c);
      adds = rw p (adds_nil n nothing o);
      all = ap (λ s. undo_all s (chars t)) h;
    }

module _ (n : ℕ) (r t out : List ℕ) (f : Front) (at : ℕ) (e : Emitter) (o : List ℕ) (g : Going n r t out f at e o) where
  pub going_under : Under (2 ^ 39) e
  going_under = under_more (0 + 270000 * length g.done) (2 ^ 39) e (omega (arith, g.few)) (g.adds.under 0 under_start)

  pub going_room : Under (2 ^ 40) e
  going_room = under_more (2 ^ 39) (2 ^ 40) e (omega arith) going_under

  -- an operation stands in front
  module _ (k : f.kind ≡ 0 → ⊥) where
    pub going_takes : taken f ≤ length (chars (drop at t))
    going_takes = omega (arith, g.takes_all, ap base (some_ahead r f (g.stands.some (omega arith))), taken_is r f g.stands)

    module _ (h : Front) (l : Loads r f.next f.to h) where
      next : ahead r f ≡ front_op r f ∷ ahead r h
      next = some_ahead r f (g.stands.some (omega arith)) ∙ ap (λ s. front_op r f ∷ s) (sym l.has)

      pub going_less : length (ahead r h) < length (ahead r f)
      going_less = omega (arith, ap length next)

      pub going_more : (to : ℕ) → Passes t at (taken f) to → (e' : Emitter) (o' : List ℕ) → Adds n (undone f (chars (drop at t)) ∷ []) e o e' o' → Going n r t out h to e' o'
      going_more to p e' o' a =
          let x = undone f (chars (drop at t)) in
          let rest : undo_all (ahead r f) (chars (drop at t)) ≡ x ∷ undo_all (ahead r h) (chars (drop to t)) =
          ap (λ s. undo_all s (chars (drop at t))) next
          ∙ ap₂ (λ o q. o ∷ undo_all (ahead r h) q) (sym (undone_is r f g.stands (chars (drop at t)))) (ap (λ j. drop j (chars (drop at t))) (sym (taken_is r f g.stands)) ∙ sym p.left) in
          record {
            limited = g.limited;
            stands = l.stands;
            inside = p.below;
            well = p.well;
            takes_all = ap length p.left ∙ length-drop (taken f) (chars (drop at t)) ∙ omega (arith, g.takes_all, ap base next, taken_is r f g.stands);
            done = g.done ++ (x ∷ []);
            few = omega (arith, g.few, length-append g.done (x ∷ []), ap length next);
            adds = adds_append n g.adds a;
            all = append_assoc g.done (x ∷ []) _ ∙ ap (λ s. g.done ++ s) (sym rest) ∙ g.all;
          }

  -- nothing lies ahead any more
  module _ (k : f.kind ≡ 0) (e' : Emitter) (o' : List ℕ) (h : Finishes n e o e' o') where
    all_done : Done n (invert (ops r) (chars t)) out e' o'
    unfolding invert
    all_done =
        let p : g.done ≡ undo_all (ops r) (chars t) =
        sym (append-nil g.done) ∙ ap (λ s. g.done ++ undo_all s (chars (drop at t))) (sym (ended_ahead r f g.stands k)) ∙ g.all in
        rw (← p) (builds n out g.done refl g.adds h)

    pub done_small : Under (2 ^ 40) e'
    done_small = all_done.small

    pub done_fits : {start : ℕ} → start ≡ start_of_text n → start + e'.text < 2 ^ 64
    done_fits q = omega (arith, g.limited, done_small)

    pub done_size : {start : ℕ} → start ≡ start_of_text n → start + e'.text ≡ start_of_text n + inserted_back r t
    unfolding inserted_back
    done_size q = ap₂ ◌+◌ q all_done.sizes.text_bytes

    pub done_writes : {o'' : List ℕ} → o'' ≡ headed e' o' → Writes n (invert (ops r) (chars t)) out o''
    done_writes q = record { emitter = e'; before = o'; done = all_done; is = q }
