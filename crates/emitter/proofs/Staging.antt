-- A record that was written to a stage with more places than it has operations, moved to its own places.
use Rattle.std.specs.Prelude.{◌≡◌, ℕ, zero, suc, ◌+◌, ◌-◌, ◌*◌, ◌^◌, ◌<◌, ◌≤◌, Bool, false, not, ◌&&◌, T, leb, List, [], ◌∷◌, map, reverse, length, take, drop}
use native.Mathlib.Omega.{arith}
use mathlib.Core.Path.{refl, ap, sym, ◌∙◌}
use mathlib.Core.List.{reverse-reverse}
use lib.ListN.{length-reverse}
use lib.Dec.{leb→le}
use borrow.Author.Tests.{not-false, le-leb, lt-leb}
use Rattle.buffers.specs.InnerOver.{over}
use Rattle.buffers.proofs.Over.{length_over, over_swap}
use Rattle.buffers.proofs.Tests.{known, le_and}
use Rattle.edits.specs.Sequence.{Seq}
use Rattle.record.specs.Layout.{kinds_start, counts_start, start_of_text}
use Rattle.record.specs.Record.{in_bytes, text}
use Rattle.places.specs.InnerOps.{relocated_ops, relocated}
use Rattle.emitter.specs.InnerEmit.{kinds_of, counts_of, laid, texts_of, Under, Sizes, Writes, Marked, headed, Done, Staged}
use Rattle.emitter.specs.declared.inner.Emitter.{Emitter}
use Rattle.emitter.proofs.Emitting.{length_kinds, length_counts}
use Rattle.emitter.proofs.Delivering.{text_ahead}

-- what was laid over a buffer stands there
over_read : (p : ℕ) (xs o : List ℕ) → p + length xs ≤ length o → take (length xs) (drop p (over p xs o)) ≡ xs
unfolding over
over_read zero [] o h = refl
over_read zero (x ∷ xs) [] h = absurd (omega arith)
over_read zero (x ∷ xs) (y ∷ o) h = ap (λ r. x ∷ r) (over_read zero xs o (omega arith))
over_read (suc p) xs [] h = absurd (omega arith)
over_read (suc p) xs (y ∷ o) h = over_read p xs o (omega arith)

read_back : (p k : ℕ) (xs o o' : List ℕ) → o' ≡ over p xs o → length xs ≡ k → p + k ≤ length o → take k (drop p o') ≡ xs
read_back p k xs o o' e l h = rw (e, ← l) (over_read p xs o (omega arith))

module _ (slots : ℕ) (w : Seq) (t o : List ℕ) (few : length w ≤ slots) (room : start_of_text slots ≤ length o) where
  abbrev kinds : List ℕ
  kinds = kinds_of w

  abbrev counts : List ℕ
  counts = counts_of w

  -- the parts do not meet, so each may be laid last
  kinds_read : take (length w) (drop kinds_start (laid slots w t o)) ≡ kinds
  unfolding laid
  kinds_read =
      let x = over (start_of_text slots) t o in
      read_back kinds_start (length w) kinds (over (counts_start slots) counts x) _ refl (length_kinds w) (omega (arith, length_over (counts_start slots) counts x, length_over (start_of_text slots) t o))

  counts_read : take (2 * length w) (drop (counts_start slots) (laid slots w t o)) ≡ counts
  unfolding laid
  counts_read =
      let x = over (start_of_text slots) t o in
      read_back (counts_start slots) (2 * length w) counts (over kinds_start kinds x) _
      (sym (over_swap kinds_start (counts_start slots) kinds counts x (omega (arith, length_kinds w))))
      (length_counts w)
      (omega (arith, length_over kinds_start kinds x, length_over (start_of_text slots) t o))

  text_read : start_of_text slots + length t ≤ length o → take (length t) (drop (start_of_text slots) (laid slots w t o)) ≡ t
  unfolding laid
  text_read h =
      let x = over (counts_start slots) counts o in
      read_back (start_of_text slots) (length t) t (over kinds_start kinds x) _
      (ap (over kinds_start kinds) (sym (over_swap (counts_start slots) (start_of_text slots) counts t o (omega (arith, length_counts w)))) ∙ sym (over_swap kinds_start (start_of_text slots) kinds t x (omega (arith, length_kinds w))))
      refl
      (omega (arith, length_over kinds_start kinds x, length_over (counts_start slots) counts o))

text_of : (s : Seq) → text (map in_bytes s) ≡ texts_of (reverse s)
text_of s = ap (λ u. text (map in_bytes u)) (sym (reverse-reverse s)) ∙ text_ahead (reverse s)

-- `relocate_ops` with the text in its place gives what a run of as many places as there are operations writes
pub marked_writes : (slots : ℕ) (s : Seq) (e : Emitter) (stage t out out' : List ℕ) → Marked slots s stage → Sizes s e → Under (2 ^ 40) e → e.ops ≤ slots → start_of_text slots ≤ length stage → t ≡ text (map in_bytes s)
    → out' ≡ headed e (relocated_ops slots e.ops e.ops stage (over (start_of_text e.ops) t out)) → Writes e.ops s out out'
unfolding laid
marked_writes slots s e stage t out out' g z u few room tt p =
    let o = g.before in
    let w = reverse s in
    let n : e.ops ≡ length w = z.ops ∙ sym (length-reverse s) in
    let q = g.wrote (omega (arith, z.ops)) in
    let fw : length w ≤ slots = omega arith in
    let r : start_of_text slots ≤ length o = omega (arith, g.as_long) in
    let kr = (λ i. take (n i) (drop kinds_start (q i))) ∙ kinds_read slots w (texts_of w) o fw r in
    let cr = (λ i. take (2 * n i) (drop (counts_start slots) (q i))) ∙ counts_read slots w (texts_of w) o fw r in
    let tr = tt ∙ text_of s in
    record {
      emitter = e;
      before = relocated_ops slots e.ops e.ops stage (over (start_of_text e.ops) t out);
      done = record {
        small = u;
        sizes = z;
        wrote = λ _ i. over kinds_start (kr i) (over (counts_start e.ops) (cr i) (over (start_of_text e.ops) (tr i) out));
      };
      is = p;
    }

pub marks : {slots : ℕ} {s : Seq} {o stage : List ℕ} {e : Emitter} → Done slots s o e stage → length stage ≡ length o → Marked slots s stage
marks {slots} {s} {o} d l = record { before = o; as_long = l; wrote = λ h. d.wrote (omega (arith, d.sizes.ops)) }

-- and so does `relocate` with the stage's text
pub staged_writes : (slots : ℕ) (s : Seq) (e : Emitter) (stage out out' : List ℕ) → Staged slots s e stage → e.ops ≤ slots → start_of_text slots + e.text ≤ length stage
    → out' ≡ headed e (relocated slots e.ops e.ops e.text stage out) → Writes e.ops s out out'
unfolding relocated
staged_writes slots s e stage out out' g few room p =
    let d = g.done in
    let o = g.before in
    let l = g.as_long in
    let w = reverse s in
    let n : e.ops ≡ length w = d.sizes.ops ∙ sym (length-reverse s) in
    let t : e.text ≡ length (texts_of w) = d.sizes.text_bytes ∙ ap length (text_of s) in
    let q = d.wrote few in
    let tr = (λ i. take (t i) (drop (start_of_text slots) (q i))) ∙ text_read slots w (texts_of w) o (omega arith) (omega arith) (omega arith) in
    marked_writes slots s e stage (take e.text (drop (start_of_text slots) stage)) out out' (marks d l) d.sizes d.small few (omega arith) (tr ∙ sym (text_of s)) p

pub stages : {slots : ℕ} {s : Seq} {o stage : List ℕ} {e : Emitter} → Done slots s o e stage → length stage ≡ length o → Staged slots s e stage
stages {slots} {s} {o} d l = record { before = o; done = d; as_long = l }

-- where `fits_stage` says so
module _ (slots : ℕ) (e : Emitter) (stage : List ℕ) (v : Bool) (p : v ≡ (leb e.ops slots && leb (start_of_text slots + e.text) (length stage))) (h : not v ≡ false) where
  has : T (leb e.ops slots && leb (start_of_text slots + e.text) (length stage))
  has = known (sym p ∙ not-false v h)

  pub has_records : e.ops ≤ slots
  has_records = ((le_and e.ops slots _).0 has).0

  pub has_text : start_of_text slots + e.text ≤ length stage
  has_text = leb→le (start_of_text slots + e.text) (length stage) ((le_and e.ops slots _).0 has).1

  pub settled_writes : (s : Seq) (out out₁ out₂ : List ℕ) → Staged slots s e stage → out₁ ≡ relocated slots e.ops e.ops e.text stage out → out₂ ≡ headed e out₁ → Writes e.ops s out out₂
  settled_writes s out out₁ out₂ g a b = staged_writes slots s e stage out out₂ g has_records has_text (b ∙ ap (headed e) a)

-- ---- `fits_stage`, `relocate`

module _ (e : Emitter) (slots room : ℕ) where
  pub place_few : slots < e.ops → false ≡ (leb e.ops slots && leb (start_of_text slots + e.text) room)
  place_few h = rw (lt-leb e.ops slots h)

  pub place_text : (x : ℕ) → x ≡ start_of_text slots → e.ops ≤ slots → leb (x + e.text) room ≡ (leb e.ops slots && leb (start_of_text slots + e.text) room)
  place_text x p h = rw (le-leb e.ops slots h, p)
