-- Past one revision: the edit's side takes the edit's place, the revision's side goes behind the counterparts before it.
use Rattle.std.specs.Prelude.{◌≡◌, ℕ, ◌+◌, ◌-◌, ◌^◌, ◌<◌, ◌≤◌, Bool, true, false, not, ◌&&◌, T, leb, List, [], ◌++◌, map, length, take, drop}
use mathlib.Core.Path.{sym, ◌∙◌, ap, ap₂, refl, subst}
use mathlib.Core.List.{append-nil}
use lib.ListN.{length-drop}
use lib.Seq.{take_at, drop-length}
use borrow.Author.Tests.{not-true, not-false, le-leb, lt-leb}
use native.Mathlib.Omega.{arith}
use borrow.Rule.Slice.PartMut.{put_mid}
use Rattle.buffers.specs.Buffers.{put_at_front}
use Rattle.characters.specs.Order.{order}
use Rattle.edits.specs.Sequence.{Seq}
use Rattle.edits.specs.Transform.{keep_both, transform}
use Rattle.edits.proofs.Claims.{transform_built}
use Rattle.record.specs.Record.{fits, encode, in_bytes, text, ops, record_fault}
use Rattle.record.specs.Layout.{op_count_of, text_bytes_of, start_of_text, size_of}
use Rattle.record.proofs.Sequences.{Good, fits_limits}
use Rattle.record.proofs.Records.{size_encode, ops_encode, fault_encode, ops_text}
use Rattle.emitter.specs.declared.inner.Emitter.{Emitter}
use Rattle.emitter.specs.InnerEmit.{Sizes, size_in, Under, Marked}
use Rattle.emitter.proofs.Delivering.{sized_length, written_front}
use Rattle.emitter.proofs.Staging.{marked_writes}
use Rattle.emitter.proofs.Counting.{text_left, text_right}
use Rattle.steps.specs.declared.inner.Pair.{Pair}
use Rattle.steps.proofs.Marking.{bounds, text_there}
use Rattle.session_log.proofs.Scanning.{to_end}
use Rattle.counterparts.specs.InnerRunning.{Holds, with_text, StoresCounterpart, SameText, Ready, ReplacesEdit}
use Rattle.counterparts.specs.declared.inner.Progress.{Progress}

-- a record at the front of a buffer
pub front_holds : (s : Seq) (buffer : List ℕ) → Good s → Holds s (put_at_front (encode s) buffer)
unfolding put_at_front
front_holds s buffer g =
    let more = drop (length (encode s)) buffer in
    record { fault = fault_encode s more g; edit = ops_encode s more; bytes_are = take_at (encode s) more _ (sym (size_encode s more)) }

-- ---- `keep_limits`, `have_places`

pub keep_first : (v w x : Bool) → v ≡ w → not v ≡ true → false ≡ (w && x)
keep_first v w x e h = rw (sym e ∙ not-true v h)

pub keeps_both : (v w u x : Bool) → v ≡ w → not v ≡ false → u ≡ x → u ≡ (w && x)
keeps_both v w u x e h f = rw (sym e ∙ not-false v h) f

module _ (p : Pair) (slots room : ℕ) where
  abbrev pub places : Bool
  places = leb p.e.ops slots && (leb p.f.ops slots && leb (size_in p.e) room)

  pub places_first : slots < p.e.ops → false ≡ places
  places_first h = rw (lt-leb p.e.ops slots h)

  module _ (g : p.e.ops ≤ slots) where
    pub places_second : slots < p.f.ops → false ≡ places
    places_second h = rw (le-leb p.e.ops slots g, lt-leb p.f.ops slots h)

    pub places_room : p.f.ops ≤ slots → (k : ℕ) → k ≡ size_in p.e → leb k room ≡ places
    places_room h k e = rw (le-leb p.e.ops slots g, le-leb p.f.ops slots h, e)

-- ---- from a stage to a place

-- the text of a sequence is that of a record of n operations
module _ (s : Seq) (e : Emitter) (z : Sizes s e) (r : List ℕ) (f : record_fault r ≡ 0) (n : ℕ) (pn : n ≡ op_count_of r) (t : text (map in_bytes s) ≡ text (map in_bytes (ops r))) where
  bytes_same : e.text ≡ text_bytes_of r
  bytes_same = z.text_bytes ∙ ap length t ∙ ops_text r f

  text_inside : start_of_text n + e.text ≤ length r
  text_inside = omega (arith, bytes_same, pn, (bounds r f).whole)

  marked_front : Under (2 ^ 40) e → T (fits s) → (slots : ℕ) (stage : List ℕ) → Marked slots s stage → e.ops ≤ slots → start_of_text slots ≤ length stage → (out out' : List ℕ) → size_in e ≤ length out → out' ≡ with_text slots e stage n r out
      → out' ≡ put_at_front (encode s) out
  marked_front u fit slots stage m few long out out' space p =
      let w = marked_writes slots s e stage _ out out' m z u few long (text_there r f n e.text pn bytes_same ∙ sym t) p in
      written_front s e.ops out w.emitter w.before out' ((fits_limits s).0 fit) (omega (arith, sized_length s e z, space)) w.done z.ops w.is

module _ (slots : ℕ) (f : Emitter) (side : List ℕ) (n : ℕ) (rec : List ℕ) (from to : ℕ) (parts : List ℕ) where
  -- what goes to a part of a buffer goes to the buffer
  pub keeps_part : (sub' : List ℕ) → sub' ≡ with_text slots f side n rec (take (length parts - from) (drop from parts)) → StoresCounterpart slots f side n rec from to parts (put_mid from (length parts - from) parts sub')
  keeps_part sub' q = record {
    keeps = λ _.
        let z : drop (length parts - from) (drop from parts) ≡ [] = ap (λ k. drop k (drop from parts)) (sym (length-drop from parts)) ∙ drop-length (drop from parts) in
        ap (λ x. take from parts ++ x) (ap₂ ◌++◌ (q ∙ ap (with_text slots f side n rec) (to_end parts from)) z ∙ append-nil (with_text slots f side n rec (drop from parts)));
  }

  pub keeps_none : length parts < to → StoresCounterpart slots f side n rec from to parts parts
  keeps_none h = record { keeps = λ k. absurd (omega (arith, h, k)) }

left_good : (x y : Seq) → T (fits (transform order x y).left) → Good (transform order x y).left
unfolding transform
left_good x y f = record { is_built = (transform_built keep_both order x y).0; in_limits = f }

module _ (slots : ℕ) (edit cur rec : List ℕ) (ne nb : ℕ) (pe : ne ≡ op_count_of edit) (pb : nb ≡ op_count_of rec) (ze : record_fault edit ≡ 0) (zr : record_fault rec ≡ 0) (t : SameText (ops cur) (ops edit)) (next side : List ℕ) (ln : length next ≡ start_of_text slots) (ls : length side ≡ start_of_text slots) (p : Pair)
    (r : Ready slots (transform order (ops cur) (ops rec)) p (length cur) next side) where
  left_text : text (map in_bytes (transform order (ops cur) (ops rec)).left) ≡ text (map in_bytes (ops edit))
  left_text = text_left (ops cur) (ops rec) ∙ t.same_text

  pub edit_inside : start_of_text ne + p.e.text ≤ length edit
  edit_inside = text_inside _ p.e r.sized.left edit ze ne pe left_text

  pub record_inside : start_of_text nb + p.f.text ≤ length rec
  record_inside = text_inside _ p.f r.sized.right rec zr nb pb (text_right (ops cur) (ops rec))

  pub goes_on : (spot : Progress) (size z : ℕ) → size ≡ size_of rec → z ≡ size_in p.f → (cur' : List ℕ) → cur' ≡ with_text slots p.e next ne edit cur → (parts parts' : List ℕ) → StoresCounterpart slots p.f side nb rec spot.bytes (spot.bytes + z) parts parts'
      → ReplacesEdit (transform order (ops cur) (ops rec)) rec spot (record { at = spot.at + size; bytes = spot.bytes + z }) cur' parts parts'
  goes_on spot size z ps pz cur' pc parts parts' k =
      let s = transform order (ops cur) (ops rec) in
      let d = r.sized in
      let from = drop spot.bytes parts in
      let c : cur' ≡ put_at_front (encode s.left) cur = marked_front s.left p.e d.left edit ze ne pe left_text d.left_small r.fit.left slots next r.left r.few_left (omega (arith, ln)) cur cur' r.room_left pc in
      record {
        holds = subst (Holds s.left) (sym c) (front_holds s.left cur (left_good (ops cur) (ops rec) r.fit.left));
        at_is = ap (λ k. spot.at + k) ps;
        bytes_are = ap (λ k. spot.bytes + k) (pz ∙ sized_length s.right p.f d.right);
        given = λ h.
            k.keeps h
            ∙ ap (λ x. take spot.bytes parts ++ x) (marked_front s.right p.f d.right rec zr nb pb (text_right (ops cur) (ops rec)) d.right_small r.fit.right slots side r.right r.few_right (omega (arith, ls)) from _ (omega (arith, h, pz, length-drop spot.bytes parts)) refl);
      }
