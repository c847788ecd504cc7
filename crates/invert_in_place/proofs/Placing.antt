-- Each operation written to its place at once.
use Rattle.std.specs.Prelude.{◌≡◌, ℕ, suc, ◌+◌, ◌-◌, ◌*◌, ◌/◌, ◌%◌, ◌<◌, ◌≤◌, Bool, true, false, cond, not, T, eqb, leb, List, [], ◌∷◌, ◌++◌, map, reverse, length, take, drop, set}
use Prim.Native.Nat.{zero-le}
use mathlib.Core.Path.{ap, ◌∙◌, refl, sym}
use mathlib.Core.List.{append-nil, reverse-reverse}
use lib.ListN.{length-drop, length-append, length-reverse}
use borrow.Author.Tests.{le-leb, lt-leb, eqb-true, eqb-false, leb-true, leb-false}
use native.Mathlib.Omega.{arith}
use lib.Seq.{length-take-le}
use Rattle.buffers.specs.InnerOver.{over, bytes16}
use Rattle.buffers.proofs.Over.{over_swap, over_nil, put_in, put16_both}
use Rattle.buffers.proofs.Tests.{known, holds, both}
use Rattle.characters.specs.InnerPlaces.{Passes}
use Rattle.characters.specs.Text.{Char, chars, bytes}
use Rattle.characters.specs.Form.{is_well_formed}
use Rattle.characters.specs.Chars.{number_of_chars}
use Rattle.characters.proofs.Texts.{chars_length, bytes_chars}
use Rattle.characters.proofs.Widths.{bytes_most}
use Rattle.characters.proofs.Places.{stays_there}
use Rattle.edits.specs.Build.{put, add, add_all, build}
use Rattle.edits.specs.Op.{Op, retain, insert, delete, size, takes, base}
use Rattle.edits.specs.Sequence.{Seq}
use Rattle.edits.specs.Invert.{undo, undo_all, invert}
use Rattle.edits.specs.Built.{Built, next}
use Rattle.edits.proofs.Meaning.{if_zero_elim}
use Rattle.edits.proofs.Links.{Links, built_links, links_built}
use denote.Enum.Bare.{sameb}
use Rattle.record.specs.contracts.inner.Kind.{the_type}
use Rattle.record.specs.declared.inner.Kind.{Kind}
use Rattle.record.specs.declared.inner.Kind.TheVariants.{Retain, Insert, Delete}
use Rattle.record.specs.Kinds.{number_of}
use Rattle.record.specs.Layout.{kind_at, start_of_text, kinds_start, counts_start, op_count_of, count_at, base_of, target_of, max_size}
use Rattle.record.specs.Record.{in_bytes, code, inserted, in_chars, record_fault, text, ops}
use Rattle.record.specs.InnerFront.{ops_left, Place}
use Rattle.record.proofs.Walks.{left_retain, left_insert, sound_next}
use Rattle.record.proofs.Records.{ops_base, ops_good, ops_length, ops_target}
use Rattle.record.proofs.Sequences.{fits_limits}
use Rattle.reader.proofs.Fronts.{begins_none, Begins, begins_retain, begins_delete, load_room, begins_well, begins_insert, ops_start}
use Rattle.places.specs.InnerOps.{written_op}
use Rattle.emitter.specs.InnerEmit.{texts_of, laid, Writes}
use Rattle.emitter.proofs.Emitting.{lay_record, lay_text}
use Rattle.emitter.proofs.Delivering.{text_ahead}
use Rattle.apply_steps.specs.InnerSteps.{Along, TakesRest}
use Rattle.apply_steps.proofs.Passing.{along_next, along_start, along_room, along_rest}
use Rattle.invert_in_place.specs.InnerInverting.{inserted_back, insert_first, inserts_apart, delete_behind, apart, Reached, InsertAt, Undone, restored, Undoes}
use Rattle.invert_in_place.specs.declared.inner.Inversion.{Inversion}
use Rattle.edits.proofs.Claims.{invert_base, invert_target}

-- ---- `restore`, `delete_follows`

pub restores : (n : ℕ) (t : List ℕ) (k at put to : ℕ) (o : List ℕ) {o₁ o' : List ℕ} → o₁ ≡ written_op n k 2 (to - at) o → o' ≡ over put (take (to - at) (drop at t)) o₁ → o' ≡ restored n k at to put t o
restores n t k at put to o q w = w ∙ ap (over put (take (to - at) (drop at t))) q

module _ (r : List ℕ) (n k : ℕ) where
  pub follows_none : n ≤ k + 1 → false ≡ delete_behind r n k
  follows_none h = rw (le-leb n (k + 1) h)

  pub follows_told : (v : Bool) → v ≡ delete_behind r n k → v ≡ true → T (delete_behind r n k)
  follows_told v p y = known (sym p ∙ y)

  pub follows_other : (kind : Kind) (v : Bool) → k + 1 < n → number_of kind ≡ kind_at r (k + 1) → v ≡ sameb the_type kind Delete → v ≡ delete_behind r n k
  follows_other kind v h q p = p ∙ rw (lt-leb n (k + 1) h, ← q) (deletes kind)
    where
      deletes : (a : Kind) → sameb the_type a Delete ≡ eqb (number_of a) 3
      deletes Retain = refl
      deletes Insert = refl
      deletes Delete = refl

-- ---- what undoes an operation, behind what is held

put_apart : (o : Op Char) (t : List Char) (r s : Seq) → T (apart r (o ∷ s)) → put (undo o t) r ≡ undo o t ∷ r
unfolding put
put_apart (retain n) t [] s h = refl
put_apart (retain n) t (retain m ∷ r) s h = absurd h
put_apart (retain n) t (insert x ∷ r) s h = refl
put_apart (retain n) t (delete m ∷ r) s h = refl
put_apart (insert y) t [] s h = refl
put_apart (insert y) t (retain m ∷ r) s h = refl
put_apart (insert y) t (insert x ∷ r) s h = absurd h
put_apart (insert y) t (delete m ∷ r) s h = absurd h
put_apart (delete n) t [] s h = refl
put_apart (delete n) t (retain m ∷ r) s h = refl
put_apart (delete n) t (insert x ∷ r) s h = absurd h
put_apart (delete n) t (delete m ∷ r) s h = absurd h

add_some : (o : Op Char) (r : Seq) → 0 < size o → add r o ≡ put o r
unfolding add
add_some o r h = if_zero_elim (λ u. u ≡ put o r) (size o) (λ e. absurd (omega arith)) (λ _. refl)

-- the text has the characters that an operation takes, so what undoes it has its size
undo_size : (o : Op Char) (t : List Char) → takes o ≤ length t → size (undo o t) ≡ size o
undo_size (retain n) t h = refl
undo_size (insert s) t h = refl
undo_size (delete n) t h = length-take-le n t h

add_apart : (o : Op Char) (t : List Char) (r s : Seq) → 0 < size o → takes o ≤ length t → T (apart r (o ∷ s)) → add r (undo o t) ≡ undo o t ∷ r
add_apart o t r s f l h = add_some (undo o t) r (omega (arith, undo_size o t l)) ∙ put_apart o t r s h

-- an insert and the delete behind it change places
add_pair : (y : List Char) (m : ℕ) (t : List Char) (r s : Seq) → 0 < length y → 0 < m → m ≤ length t → T (apart r (insert y ∷ s))
    → add (add r (delete (length y))) (insert (take m t)) ≡ delete (length y) ∷ insert (take m t) ∷ r
unfolding put
add_pair y m t r s f p l h =
    ap (λ u. add u (insert (take m t))) (add_apart (insert y) t r s f zero-le h)
    ∙ add_some (insert (take m t)) (delete (length y) ∷ r) (omega (arith, length-take-le m t l))
    ∙ go r h
  where
    go : (r : Seq) → T (apart r (insert y ∷ s)) → put (insert (take m t)) (delete (length y) ∷ r) ≡ delete (length y) ∷ insert (take m t) ∷ r
    go [] h = refl
    go (retain j ∷ r) h = refl
    go (insert x ∷ r) h = absurd h
    go (delete j ∷ r) h = absurd h

next_delete : (m k : ℕ) (q : Seq) → T (next (delete m) q) → T (next (delete k) q)
next_delete m k [] h = tt
next_delete m k (o ∷ q) h = h

-- so the inverse has as many operations as there were, behind those that are held
count_undone : (s held : Seq) (t : List Char) → Links s → T (inserts_apart s) → T (apart held s) → base s ≤ length t → length (add_all held (undo_all s t)) ≡ length held + length s
unfolding add_all
count_undone [] held t l a h e = omega arith
count_undone (retain n ∷ s) held t l a h e =
    ap (λ r. length (add_all r (undo_all s (drop n t)))) (add_apart (retain n) t held s l.0 (omega arith) h)
    ∙ count_undone s (retain n ∷ held) (drop n t) l.2 a l.1 (simp length-drop (omega arith))
    ∙ omega arith
count_undone (delete n ∷ s) held t l a h e =
    ap (λ r. length (add_all r (undo_all s (drop n t)))) (add_apart (delete n) t held s l.0 (omega arith) h)
    ∙ count_undone s (insert (take n t) ∷ held) (drop n t) l.2 a (next_delete n 0 s l.1) (simp length-drop (omega arith))
    ∙ omega arith
count_undone (insert y ∷ []) held t l a h e = ap length (add_apart (insert y) t held [] l.0 zero-le h) ∙ omega arith
count_undone (insert y ∷ insert x ∷ s) held t l a h e = absurd a
count_undone (insert y ∷ retain n ∷ s) held t l a h e =
    ap (λ r. length (add_all r (undo_all (retain n ∷ s) t))) (add_apart (insert y) t held (retain n ∷ s) l.0 zero-le h)
    ∙ count_undone (retain n ∷ s) (delete (length y) ∷ held) t l.2 a tt (omega arith)
    ∙ omega arith
count_undone (insert y ∷ delete m ∷ s) held t l a h e =
    ap (λ r. length (add_all r (undo_all s (drop m t)))) (add_pair y m t held (delete m ∷ s) l.0 l.2.0 (omega arith) h)
    ∙ count_undone s (delete (length y) ∷ insert (take m t) ∷ held) (drop m t) l.2.2 a (next_delete m 0 s l.2.1) (simp length-drop (omega arith))
    ∙ omega arith

pub inverse_length : (s : Seq) (t : List Char) → Built s → T (inserts_apart s) → base s ≤ length t → length (invert s t) ≡ length s
unfolding invert build
inverse_length s t b a e = length-reverse (add_all [] (undo_all s t)) ∙ count_undone s [] t (built_links s b) a tt e ∙ omega arith

-- in a built sequence inserts are apart
pub built_apart : (s : Seq) → Built s → T (inserts_apart s)
built_apart s b = go s (built_links s b)
  where
    go : (s : Seq) → Links s → T (inserts_apart s)
    go [] l = tt
    go (retain n ∷ s) l = go s l.2
    go (insert x ∷ []) l = tt
    go (insert x ∷ retain n ∷ s) l = go (retain n ∷ s) l.2
    go (insert x ∷ insert y ∷ s) l = absurd l.1
    go (insert x ∷ delete n ∷ s) l = go (delete n ∷ s) l.2
    go (delete n ∷ s) l = go s l.2

-- ---- one operation more at its place

-- with its text behind the text
lay_all : (n : ℕ) (s : Seq) (out : List ℕ) → length s < n → (o : Op Char)
    → over (start_of_text n + length (texts_of s)) (inserted (in_bytes o)) (written_op n (length s) (code (in_bytes o)) (size (in_bytes o)) (laid n s (texts_of s) out)) ≡ laid n (o ∷ s) (texts_of (o ∷ s)) out
unfolding texts_of
lay_all n s out h o =
    ap (over (start_of_text n + length (texts_of s)) (inserted (in_bytes o))) (lay_record n s (texts_of s) out o h) ∙ lay_text n (o ∷ s) (texts_of s) out (inserted (in_bytes o)) h

-- two operations in either order
swap : (n k i c j d : ℕ) (o : List ℕ) → k + 1 < n → written_op n k i c (written_op n (k + 1) j d o) ≡ written_op n (k + 1) j d (written_op n k i c o)
swap n k i c j d o h =
    let k₀ = kinds_start + k in
    let k₁ = kinds_start + (k + 1) in
    let c₀ = counts_start n + 2 * k in
    let c₁ = counts_start n + 2 * (k + 1) in
    ap (over c₀ (bytes16 c)) (sym (over_swap k₀ c₁ (i ∷ []) (bytes16 d) (over k₁ (j ∷ []) o) (omega arith)) ∙ ap (over c₁ (bytes16 d)) (sym (over_swap k₀ k₁ (i ∷ []) (j ∷ []) o (omega arith))))
    ∙ sym (over_swap c₀ c₁ (bytes16 c) (bytes16 d) (over k₁ (j ∷ []) (over k₀ (i ∷ []) o)) (omega arith))
    ∙ ap (over c₁ (bytes16 d)) (over_swap k₁ c₀ (j ∷ []) (bytes16 c) (over k₀ (i ∷ []) o) (omega arith))

-- ---- what stands behind an insert

module _ (r : List ℕ) (n k : ℕ) where
  found : delete_behind r n k ≡ true → (k + 1 < n) × (kind_at r (k + 1) ≡ 3)
  found d = go (leb n (k + 1)) refl d
    where
      go : (b : Bool) → leb n (k + 1) ≡ b → cond b false (eqb (kind_at r (k + 1)) 3) ≡ true → (k + 1 < n) × (kind_at r (k + 1) ≡ 3)
      go true u d = absurd (known d)
      go false u d = (leb-false n (k + 1) u, eqb-true (kind_at r (k + 1)) 3 d)

  -- where no delete does, and no insert, what stands there may follow a delete
  lone : (at : ℕ) → n ≡ op_count_of r → Place r (k + 1) at → delete_behind r n k ≡ false → T (not (insert_first (ops_left r (k + 1) at))) → T (next (delete 0) (ops_left r (k + 1) at))
  unfolding ops_left in_chars
  lone at e p d f = go (leb n (k + 1)) refl d
    where
      other : (i : k + 1 < op_count_of r) → (kind_at r (k + 1) ≡ 3 → ⊥) → (b : Bool) → eqb (kind_at r (k + 1)) 1 ≡ b → T (next (delete 0) (ops_left r (k + 1) at))
      other i z true u = rw (ap (map in_chars) (left_retain r (k + 1) i at (eqb-true (kind_at r (k + 1)) 1 u))) tt
      other i z false u =
          let j = eqb-false (kind_at r (k + 1)) 1 u in
          let s = sound_next r (k + 1) i p.sound in
          absurd (rw (ap (map in_chars) (left_insert r (k + 1) i at (omega (arith, s.least, s.most)))) at f)

      go : (b : Bool) → leb n (k + 1) ≡ b → cond b false (eqb (kind_at r (k + 1)) 3) ≡ false → T (next (delete 0) (ops_left r (k + 1) at))
      go true u d = rw (begins_none r n (k + 1) at e (leb-true n (k + 1) u)) tt
      go false u d = other (omega (arith, leb-false n (k + 1) u)) (eqb-false (kind_at r (k + 1)) 3 d) (eqb (kind_at r (k + 1)) 1) refl

-- ---- one step

-- behind what stands first, inserts are apart as well
apart_rest : (p : Op Char) (q : Seq) → T (inserts_apart (p ∷ q)) → T (inserts_apart q)
apart_rest (retain n) q h = h
apart_rest (insert x) q h = ((both (not (insert_first q)) (inserts_apart q)).0 h).1
apart_rest (delete n) q h = h

-- the bytes of the characters passed
part_wide : (t : List ℕ) (at k to : ℕ) → Passes t at k to → to - at ≡ length (bytes (take k (chars (drop at t))))
part_wide t at k to p = sym (length-take-le (to - at) (drop at t) (omega (arith, p.below, length-drop at t))) ∙ ap length p.part

-- the operations ahead begin with p
module _ {n : ℕ} {r t : List ℕ} {s : Inversion} (g : Reached n r t s) {p : Op Char} {to : ℕ} (b : Begins r s.k s.from p to) where
  links : Links (p ∷ ops_left r (s.k + 1) to)
  links = built_links (p ∷ ops_left r (s.k + 1) to) (rw b.has at g.built)

  enough : takes p + base (ops_left r (s.k + 1) to) ≤ length (chars (drop s.at t))
  enough = omega (arith, g.along.takes_all, ap base b.has)

  apart_first : T (inserts_apart (p ∷ ops_left r (s.k + 1) to))
  apart_first = rw b.has at g.inserts_stay_apart

  -- behind it
  reaches : (end put : ℕ) → Passes t s.at (takes p) end → put ≤ start_of_text n + end → Reached n r t (record { k = s.k + 1; from = to; at = end; put = put })
  reaches end put v few =
      record {
        along = along_next r t s.k s.from s.at p to end g.along b v;
        built = links_built (ops_left r (s.k + 1) to) links.2;
        inserts_stay_apart = apart_rest p (ops_left r (s.k + 1) to) apart_first;
        few = few;
      }

module _ {n : ℕ} {r t o₀ : List ℕ} {s : Inversion} {o : List ℕ} (g : Undone n r t o₀ s o) {p : Op Char} {to : ℕ} (b : Begins r s.k s.from p to) where
  abbrev x : List Char
  x = chars (drop s.at t)

  abbrev q : Seq
  q = ops_left r (s.k + 1) to

  abbrev y : Op Char
  y = undo p x

  loose : T (apart g.held (p ∷ q))
  loose = rw b.has at g.loose

  one_more : s.k < n → (end put : ℕ) (o' : List ℕ) → Passes t s.at (takes p) end → T (apart (y ∷ g.held) q) → put ≡ s.put + length (inserted (in_bytes y)) → put ≤ start_of_text n + end
      → o' ≡ over s.put (inserted (in_bytes y)) (written_op n s.k (code (in_bytes y)) (size (in_bytes y)) o)
      → Undone n r t o₀ (record { k = s.k + 1; from = to; at = end; put = put }) o'
  unfolding add_all texts_of
  one_more h end put o' e a m few w =
      let l = links g.reached b in
      let takes_few : takes p ≤ length x = omega (arith, enough g.reached b) in
      let added : add g.held y ≡ y ∷ g.held = add_apart p x g.held q l.0 takes_few loose in
      record {
        reached = reaches g.reached b end put e few;
        held = y ∷ g.held;
        many = omega (arith, g.many);
        loose = a;
        texts = omega (arith, m, g.texts, length-append (texts_of g.held) (inserted (in_bytes y)));
        all =
            ap (λ z. add_all (y ∷ g.held) (undo_all q z)) e.left
            ∙ ap (λ u. add_all u (undo_all q (drop (takes p) x))) (sym added)
            ∙ ap (λ u. add_all g.held (undo_all u x)) (sym b.has)
            ∙ g.all;
        wrote =
            w
            ∙ (λ i. over (g.texts i) (inserted (in_bytes y)) (written_op n (sym g.many i) (code (in_bytes y)) (size (in_bytes y)) (g.wrote i)))
            ∙ lay_all n g.held o₀ (omega (arith, g.many)) y;
      }

-- an insert, and the delete behind it
module _ {n : ℕ} {r t o₀ : List ℕ} {s : Inversion} {o : List ℕ} (g : Undone n r t o₀ s o) (h : s.k + 1 < n) {y : List Char} {to m : ℕ} (b : Begins r s.k s.from (insert y) to) (d : Begins r (s.k + 1) to (delete m) to) where
  abbrev q₂ : Seq
  q₂ = ops_left r (s.k + 1 + 1) to

  first : Links (insert y ∷ ops_left r (s.k + 1) to)
  first = links g.reached b

  second : Links (delete m ∷ q₂)
  second = rw d.has at first.2

  room : m + base q₂ ≤ length (chars (drop s.at t))
  room = omega (arith, enough g.reached b, ap base d.has)

  two_more : (end : ℕ) (o₁ o' : List ℕ) → o₁ ≡ written_op n (s.k + 1) 3 (length y) o → Passes t s.at m end → o' ≡ restored n s.k s.at end s.put t o₁
      → Undone n r t o₀ (record { k = s.k + 1 + 1; from = to; at = end; put = s.put + (end - s.at) }) o'
  unfolding add_all texts_of in_bytes
  two_more end o₁ o' w v u =
      let x = chars (drop s.at t) in
      let z = take m x in
      let l = length y in
      let few : m ≤ length x = omega (arith, room) in
      let old = g.held in
      let new = delete l ∷ insert z ∷ old in
      let texts = texts_of old in
      let wide : end - s.at ≡ length (bytes z) = part_wide t s.at m end v in
      let first-reached = reaches g.reached b s.at s.put (stays_there t s.at g.reached.along.inside g.reached.along.well) g.reached.few in
      let added : add (add old (delete l)) (insert z) ≡ new = add_pair y m x old (ops_left r (s.k + 1) to) first.0 second.0 few (loose g b) in
      let long : length texts + length (bytes z) ≡ length (texts ++ bytes z) = sym (length-append texts (bytes z)) in
      let up : length old + 1 ≡ suc (length old) = omega arith in
      let lay = over (start_of_text n + length texts) (bytes z) in
      record {
        reached = reaches first-reached d end (s.put + (end - s.at)) v (omega (arith, g.reached.few, v.above));
        held = new;
        many = omega (arith, g.many);
        loose = next_delete m 0 q₂ second.1;
        texts = omega (arith, wide, g.texts, long, ap length (append-nil (texts ++ bytes z)));
        all =
            ap (λ z. add_all new (undo_all q₂ z)) v.left
            ∙ ap (λ u. add_all u (undo_all q₂ (drop m x))) (sym added)
            ∙ ap (λ u. add_all (add old (delete l)) (undo_all u x)) (sym d.has)
            ∙ ap (λ u. add_all old (undo_all u x)) (sym b.has)
            ∙ g.all;
        wrote =
            u
            ∙ (λ i. over (g.texts i) (v.part i) (written_op n (sym g.many i) 2 (wide i) (w i)))
            ∙ (λ i. lay (written_op n (length old) 2 (length (bytes z)) (written_op n (sym g.many i + 1) 3 l (g.wrote i))))
            ∙ ap lay
            (swap n (length old) 2 (length (bytes z)) 3 l (laid n old texts o₀) (omega (arith, g.many))
            ∙ ap (written_op n (length old + 1) 3 l) (lay_record n old texts o₀ (insert z) (omega (arith, g.many)))
            ∙ ap (λ k. written_op n k 3 l (laid n (insert z ∷ old) texts o₀)) up
            ∙ lay_record n (insert z ∷ old) texts o₀ (delete l) (omega (arith, g.many)))
            ∙ lay_text n new texts o₀ (bytes z) (omega (arith, g.many))
            ∙ ap (λ u. laid n new u o₀) (sym (append-nil (texts ++ bytes z)));
      }

-- ---- `undo_insert`, `undo`

-- the operation at k, as the code finds it: a retain, or a delete
module _ (n : ℕ) (r t : List ℕ) (s : Inversion) (g : Reached n r t s) (e : n ≡ op_count_of r) (h : s.k < n) (kind count : ℕ) (q : kind ≡ kind_at r s.k) (c : count ≡ count_at r s.k) (small : count < 65536) where
  module _ (z : kind ≡ 2 → ⊥) where
    pub chars_room : count ≤ number_of_chars (drop s.at t)
    chars_room = along_room r t n s.k s.from s.at kind count g.along e h q c small z

    pub takes_rest : TakesRest t s.at count (n - s.k)
    takes_rest = along_rest r t n s.k s.from s.at kind count g.along e h q c small z

  module _ (to : ℕ) (v : Passes t s.at count to) (o o' : List ℕ) where
    pub undoes_retain : kind ≡ 1 → o' ≡ written_op n s.k 1 count o → Undoes n r t s o (record { k = s.k + 1; from = s.from; at = to; put = s.put }) o'
    unfolding in_bytes
    undoes_retain z w =
        let b = begins_retain r n s.k s.from kind count e g.along.place h q c small z in
        record {
          forth = omega arith;
          keeps = λ o₀ u. one_more u b h to s.put o' v (links g b).1 (omega arith) (omega (arith, g.few, v.above)) (w ∙ sym (over_nil s.put _));
        }

    pub undoes_delete : (kind ≡ 2 → ⊥) → (kind ≡ 1 → ⊥) → o' ≡ restored n s.k s.at to s.put t o
        → Undoes n r t s o (record { k = s.k + 1; from = s.from; at = to; put = s.put + (to - s.at) }) o'
    unfolding in_bytes
    undoes_delete z x w =
        let b = begins_delete r n s.k s.from kind count e g.along.place h q c small x z in
        let wide = part_wide t s.at count to v in
        record {
          forth = omega arith;
          keeps = λ o₀ u.
              one_more u b h to (s.put + (to - s.at)) o' v
              (next_delete count 0 (ops_left r (s.k + 1) s.from) (links g b).1)
              (ap (λ i. s.put + i) wide)
              (omega (arith, g.few, v.above))
              (w ∙ (λ i. over s.put (v.part i) (written_op n s.k 2 (wide i) o)));
        }

-- an insert
pub text_in : (n : ℕ) (r t : List ℕ) (s : Inversion) → Reached n r t s → n ≡ op_count_of r → s.k < n → (count : ℕ) → kind_at r s.k ≡ 2 → count ≡ count_at r s.k → count < 65536 → s.from + count ≤ length r
text_in n r t s g e h count q c small = load_room r n s.k s.from 2 count e g.along.place h (sym q) c small refl

module _ (n : ℕ) (r t : List ℕ) (s : Inversion) (g : Reached n r t s) (e : n ≡ op_count_of r) (h : s.k < n) (count num : ℕ) (a : InsertAt r s.k s.from count num) where
  abbrev typed : List ℕ
  typed = take (s.from + count - s.from) (drop s.from r)

  inserts : Begins r s.k s.from (insert (chars typed)) (s.from + count)
  inserts = begins_insert r n s.k s.from 2 count e g.along.place h (sym a.kind) a.size a.small refl

  as_many : num ≡ length (chars typed)
  as_many = a.chars ∙ sym (chars_length typed (begins_well r n s.k s.from 2 count e g.along.place h (sym a.kind) a.size a.small refl))

  pub undoes_insert : (v : Bool) → v ≡ delete_behind r n s.k → v ≡ false → (o o' : List ℕ) → o' ≡ written_op n s.k 3 num o → Undoes n r t s o (record { k = s.k + 1; from = s.from + count; at = s.at; put = s.put }) o'
  unfolding in_bytes
  undoes_insert v f y o o' w =
      record {
        forth = omega arith;
        keeps = λ o₀ u.
            one_more u inserts h s.at s.put o'
            (stays_there t s.at g.along.inside g.along.well)
            (lone r n s.k (s.from + count) e inserts.place (sym f ∙ y) ((both (not (insert_first (ops_left r (s.k + 1) (s.from + count)))) _).0 (apart_first g inserts)).0)
            (omega arith)
            g.few
            (w ∙ ap (λ j. written_op n s.k 3 j o) as_many ∙ sym (over_nil s.put _));
      }

  -- the delete behind it
  module _ (f : T (delete_behind r n s.k)) where
    behind : (s.k + 1 < n) × (kind_at r (s.k + 1) ≡ 3)
    behind = found r n s.k (holds (delete_behind r n s.k) f)

    pub next_in : s.k + 1 < op_count_of r
    next_in = rw (← e) behind.0

    pub next_room : (o : List ℕ) → start_of_text n ≤ length o → counts_start n + 2 * (s.k + 1) + 1 < length o
    next_room o i = omega (arith, behind.0)

    module _ (more : ℕ) (d : more ≡ count_at r (s.k + 1)) (l : more < 65536) where
      deletes : Begins r (s.k + 1) (s.from + count) (delete more) (s.from + count)
      deletes = begins_delete r n (s.k + 1) (s.from + count) 3 more e inserts.place behind.0 (sym behind.1) d l (λ i. absurd (omega arith)) (λ i. absurd (omega arith))

      along : Along r t (s.k + 1) (s.from + count) s.at
      along = along_next r t s.k s.from s.at (insert (chars typed)) (s.from + count) s.at g.along inserts (stays_there t s.at g.along.inside g.along.well)

      pub next_chars : more ≤ number_of_chars (drop s.at t)
      next_chars = along_room r t n (s.k + 1) (s.from + count) s.at 3 more along e behind.0 (sym behind.1) d l (λ i. absurd (omega arith))

      pub next_rest : TakesRest t s.at more (n - (s.k + 1))
      next_rest = along_rest r t n (s.k + 1) (s.from + count) s.at 3 more along e behind.0 (sym behind.1) d l (λ i. absurd (omega arith))

      pub undoes_pair : (to : ℕ) → Passes t s.at more to → (o o₁ o' : List ℕ) → o₁ ≡ written_op n (s.k + 1) 3 num o → o' ≡ restored n s.k s.at to s.put t o₁
          → Undoes n r t s o (record { k = s.k + 2; from = s.from + count; at = to; put = s.put + (to - s.at) }) o'
      undoes_pair to v o o₁ o' w x =
          let k : s.k + 2 ≡ s.k + 1 + 1 = omega arith in
          record {
            forth = omega arith;
            keeps = λ o₀ u. rw k (two_more u behind.0 inserts deletes to o₁ o' (w ∙ ap (λ j. written_op n (s.k + 1) 3 j o) as_many) v x);
          }

-- ---- `write_size`, `write_in_place`

pub size_written : (o : List ℕ) (at v : ℕ) → set (set o at (v % 256)) (at + 1) (v / 256 % 256) ≡ over at (bytes16 v) o
size_written o at v = put16_both at v o (put_in o at (v % 256)) (put_in (set o at (v % 256)) (at + 1) (v / 256 % 256))

module _ (n : ℕ) (r t : List ℕ) (z : record_fault r ≡ 0) (e : n ≡ op_count_of r) (start : ℕ) (ps : start ≡ start_of_text n) where
  module _ (w : T (is_well_formed t)) (b : number_of_chars t ≡ base_of r) (a : T (inserts_apart (ops r))) (o : List ℕ) where
    pub undone_start : Undone n r t o (record { k = 0; from = start; at = 0; put = start }) o
    unfolding laid texts_of
    undone_start =
        let i = ops_start r n start z e ps in
        record {
          reached = record {
            along = along_start r t n start z w b e ps;
            built = rw i (ops_good r z).is_built;
            inserts_stay_apart = rw i a;
            few = omega arith;
          };
          held = [];
          many = refl;
          loose = tt;
          texts = omega arith;
          all = ap (λ s. add_all [] (undo_all s (chars t))) i;
          wrote = sym (simp over_nil);
        }

  pub put_above : (o : List ℕ) (s : Inversion) (o' : List ℕ) → Undone n r t o s o' → start ≤ s.put
  put_above o s o' g = omega (arith, g.texts)

pub undone_more : (n : ℕ) (r t o : List ℕ) (s : Inversion) (o₁ : List ℕ) → Undone n r t o s o₁ → (u : Inversion) (o₂ : List ℕ) → Undoes n r t s o₁ u o₂ → Undone n r t o u o₂
undone_more n r t o s o₁ g u o₂ w = w.keeps o g

-- a text of base characters has at most four bytes for each
pub text_few : (r t : List ℕ) → record_fault r ≡ 0 → T (is_well_formed t) → number_of_chars t ≡ base_of r → length t ≤ 4 * max_size
text_few r t z w b = omega (arith, ap length (bytes_chars t w), bytes_most (chars t), chars_length t w, ops_base r z, ((fits_limits (ops r)).0 (ops_good r z).in_limits).bases)

-- all is undone, and the sizes are written
module _ (n : ℕ) (r t : List ℕ) (z : record_fault r ≡ 0) (e : n ≡ op_count_of r) (w : T (is_well_formed t)) (b : number_of_chars t ≡ base_of r) (a : T (inserts_apart (ops r))) (o : List ℕ) (start : ℕ) (ps : start ≡ start_of_text n) (s : Inversion) (o₁ : List ℕ) (g : Undone n r t o s o₁) (h : n ≤ s.k) where
  is_held : invert (ops r) (chars t) ≡ reverse g.held
  unfolding invert build add_all
  is_held = ap reverse (sym (ap (λ q. add_all g.held (undo_all q (chars (drop s.at t)))) (sym (begins_none r n s.k s.from e h)) ∙ g.all))

  has_base : base (ops r) ≤ length (chars t)
  has_base = omega (arith, chars_length t w, ops_base r z)

  has_text : s.put - start ≡ inserted_back r t
  unfolding inserted_back
  has_text = let p : s.put - start ≡ length (texts_of g.held) = omega (arith, g.texts) in p ∙ ap length (sym (text_ahead g.held)) ∙ ap (λ u. length (text (map in_bytes u))) (sym is_held)

  pub undone_size : s.put ≡ start_of_text n + inserted_back r t
  undone_size = omega (arith, has_text, g.texts)

  pub undone_writes : (target base : ℕ) → target ≡ target_of r → base ≡ base_of r → {o₂ o₃ o₄ o' : List ℕ} → o₂ ≡ over 0 (bytes16 n) o₁ → o₃ ≡ over 2 (bytes16 (s.put - start)) o₂ → o₄ ≡ over 4 (bytes16 target) o₃ → o' ≡ over 6 (bytes16 base) o₄
      → Writes n (invert (ops r) (chars t)) o o'
  unfolding inserted_back
  undone_writes after before pa pb {o₂} {o₃} {o₄} {o'} w₀ w₂ w₄ w₆ =
      let f = (fits_limits (ops r)).0 (ops_good r z).in_limits in
      record {
        emitter = record { ins = 0; del = 0; ret = 0; ops = n; text = s.put - start; base = after; target = before };
        before = o₁;
        done = record {
          small = omega (arith, f.ops, f.bases, f.targets, ops_length r z, ops_base r z, ops_target r z, g.reached.few, g.reached.along.inside, text_few r t z w b);
          sizes = record {
            ops = sym (inverse_length (ops r) (chars t) (ops_good r z).is_built a has_base ∙ ops_length r z ∙ sym e);
            text_bytes = has_text;
            base_is = pa ∙ sym (ops_target r z) ∙ sym (invert_base (ops r) (chars t));
            target_is = pb ∙ sym (ops_base r z) ∙ sym (invert_target (ops r) (chars t) has_base);
          };
          wrote = λ _. g.wrote ∙ ap (λ u. laid n u (texts_of u) o) (sym (ap reverse is_held ∙ reverse-reverse g.held));
        };
        is = w₆ ∙ ap (over 6 (bytes16 before)) (w₄ ∙ ap (over 4 (bytes16 after)) (w₂ ∙ ap (over 2 (bytes16 (s.put - start))) w₀));
      }
