-- The parts of a checked record, up to one of its operations.
use Rattle.std.specs.Prelude.{◌≡◌, ℕ, suc, ◌+◌, ◌*◌, ◌/◌, ◌%◌, ◌<◌, ◌≤◌, List, [], ◌∷◌, ◌++◌, map, reverse, length, get_or, take, drop}
use mathlib.Core.Path.{sym, ap, ◌∙◌, refl, ap₂}
use mathlib.Core.List.{append_assoc, reverse_aux, reverse-reverse}
use lib.ListN.{take-append-drop, length-append, length-reverse}
use native.Mathlib.Omega.{arith}
use lib.Seq.{get_or-drop, get_or_at, get_or-append-add, take_at}
use Rattle.buffers.specs.Words.{words}
use Rattle.buffers.specs.InnerOver.{bytes16}
use Rattle.characters.specs.Text.{Char}
use Rattle.edits.specs.Sequence.{Seq}
use Rattle.edits.specs.Op.{Op, retain, insert, delete, size, base, takes}
use Rattle.edits.proofs.Building.{Back, built_back}
use Rattle.record.specs.Record.{in_bytes, code, inserted, ops, text, text_of, record_fault, encode}
use Rattle.record.specs.Layout.{op_count_of, text_bytes_of, kinds_start, counts_start, size_of, kind_at, count_at, max_size}
use Rattle.record.proofs.Sequences.{fits_limits}
use Rattle.record.proofs.Records.{text_length, in_bytes_text, in_bytes_ops, ops_length, ops_good, Bytes, drop_kinds, drop_counts, encode_ops}
use Rattle.emitter.specs.InnerEmit.{kinds_of, texts_of, counts_of}
use Rattle.emitter.proofs.Growing.{total_reverse}
use Rattle.emitter.proofs.Delivering.{text_ahead}
use Rattle.emitter.proofs.Emitting.{length_kinds, length_counts}

-- what begins as `p` and `q` do
begins : (n : ℕ) (l p q : List ℕ) → take n l ≡ p ++ q → l ≡ p ++ (q ++ drop n l)
begins n l p q e = sym (take-append-drop n l) ∙ ap (λ t. t ++ drop n l) e ∙ append_assoc p q (drop n l)

-- ---- the parts of the operations before a place, and of those behind it

kinds_before : (w u : Seq) → map code (map in_bytes (reverse_aux w u)) ≡ kinds_of w ++ map code (map in_bytes u)
unfolding kinds_of
kinds_before [] u = refl
kinds_before (o ∷ w) u = kinds_before w (o ∷ u) ∙ sym (append_assoc (kinds_of w) (code (in_bytes o) ∷ []) (map code (map in_bytes u)))

-- no count is over a limit
count_few : (o : Op Char) (w : Seq) → base (o ∷ w) ≤ max_size → length (texts_of (o ∷ w)) ≤ max_size → size (in_bytes o) < 65536
unfolding in_bytes texts_of
count_few (retain n) w b t = omega arith
count_few (insert x) w b t = omega (arith, length-append (texts_of w) (inserted (in_bytes (insert x))))
count_few (delete n) w b t = omega arith

fewer_text : (o : Op Char) (w : Seq) → length (texts_of w) ≤ length (texts_of (o ∷ w))
unfolding texts_of
fewer_text o w = omega (arith, length-append (texts_of w) (inserted (in_bytes o)))

counts_before : (w u : Seq) → base w ≤ max_size → length (texts_of w) ≤ max_size
    → words (map size (map in_bytes (reverse_aux w u))) ≡ counts_of w ++ words (map size (map in_bytes u))
unfolding counts_of
counts_before [] u b t = refl
counts_before (o ∷ w) u b t =
    let v = size (in_bytes o) in
    let f = count_few o w b t in
    let q : v / 256 ≡ v / 256 % 256 = omega arith in
    counts_before w (o ∷ u) (omega arith) (omega (arith, fewer_text o w))
    ∙ ap (λ k. counts_of w ++ (v % 256 ∷ k ∷ words (map size (map in_bytes u)))) q
    ∙ sym (append_assoc (counts_of w) (bytes16 v) (words (map size (map in_bytes u))))

-- ---- the place

-- the first k operations of the record, held last operation first
pub record At (r : List ℕ) (k : ℕ) (w : Seq) : Type 0 where
  pub behind : Seq
  pub is : ops r ≡ reverse_aux w behind
  pub long : length w ≡ k
  pub links : Back w
  pub bases : base w ≤ max_size
  pub texts : length (texts_of w) ≤ max_size

pub at_before : (r : List ℕ) (k : ℕ) (o : Op Char) (w : Seq) → At r (suc k) (o ∷ w) → At r k w
at_before r k o w a = record {
  behind = o ∷ a.behind;
  is = a.is;
  long = omega (arith, a.long);
  links = a.links.2;
  bases = omega (arith, a.bases);
  texts = omega (arith, a.texts, fewer_text o w);
}

module _ (r : List ℕ) (z : record_fault r ≡ 0) where
  text_back : texts_of (reverse (ops r)) ≡ text (map in_bytes (ops r))
  text_back = sym (text_ahead (reverse (ops r))) ∙ ap (λ s. text (map in_bytes s)) (reverse-reverse (ops r))

  pub text_at : text_of r ≡ texts_of (reverse (ops r))
  text_at = sym (text_back ∙ ap text (in_bytes_ops r z) ∙ in_bytes_text r z)

  pub text_long : length (texts_of (reverse (ops r))) ≡ text_bytes_of r
  text_long = ap length (sym text_at) ∙ text_length r z

  pub at_the_end : (k : ℕ) → k ≡ op_count_of r → At r k (reverse (ops r))
  at_the_end k e =
      let g = ops_good r z in
      let l = (fits_limits (ops r)).0 g.in_limits in
      record {
        behind = [];
        is = sym (reverse-reverse (ops r));
        long = length-reverse (ops r) ∙ ops_length r z ∙ sym e;
        links = built_back (ops r) g.is_built;
        bases = omega (arith, total_reverse takes (ops r), l.bases);
        texts = omega (arith, ap length text_back, l.text_bytes);
      }

module _ (r : List ℕ) (z : record_fault r ≡ 0) (b : Bytes r) where
  -- what stands behind the record
  abbrev more : List ℕ
  more = drop (size_of r) r

  whole : r ≡ encode (ops r) ++ more
  whole = sym (take-append-drop (size_of r) r) ∙ ap (λ l. l ++ more) (sym (encode_ops r z b))

  module _ (k : ℕ) (w : Seq) (a : At r k w) where
    pub kinds_at : take k (drop kinds_start r) ≡ kinds_of w
    kinds_at =
        let u = a.behind in
        let y = words (map size (map in_bytes (ops r))) ++ (text (map in_bytes (ops r)) ++ more) in
        ap (take k)
        (ap (drop kinds_start) whole
        ∙ drop_kinds (ops r) more
        ∙ ap (λ s. map code (map in_bytes s) ++ y) a.is
        ∙ ap (λ l. l ++ y) (kinds_before w u)
        ∙ append_assoc (kinds_of w) (map code (map in_bytes u)) y)
        ∙ take_at (kinds_of w) _ k (length_kinds w ∙ a.long)

    pub counts_at : take (2 * k) (drop (counts_start (op_count_of r)) r) ≡ counts_of w
    counts_at =
        let u = a.behind in
        let y = text (map in_bytes (ops r)) ++ more in
        ap (take (2 * k))
        (ap (λ l. drop (counts_start (op_count_of l)) l) whole
        ∙ drop_counts (ops r) more
        ∙ ap (λ s. words (map size (map in_bytes s)) ++ y) a.is
        ∙ ap (λ l. l ++ y) (counts_before w u a.bases a.texts)
        ∙ append_assoc (counts_of w) (words (map size (map in_bytes u))) y)
        ∙ take_at (counts_of w) _ (2 * k) (length_counts w ∙ ap (λ n. 2 * n) a.long)

  -- the last of them, as the record has it
  module _ (k : ℕ) (o : Op Char) (w : Seq) (a : At r (suc k) (o ∷ w)) where
    long_w : length w ≡ k
    long_w = omega (arith, a.long)

    pub kind_last : kind_at r k ≡ code (in_bytes o)
    unfolding kinds_of
    kind_last =
        sym (get_or-drop kinds_start r k 0)
        ∙ ap (λ l. get_or l k 0) (begins (suc k) (drop kinds_start r) (kinds_of w) (code (in_bytes o) ∷ []) (kinds_at (suc k) (o ∷ w) a))
        ∙ get_or_at (kinds_of w) (code (in_bytes o)) _ 0 k (length_kinds w ∙ long_w)

    pub count_last : count_at r k ≡ size (in_bytes o)
    unfolding counts_of
    count_last =
        let v = size (in_bytes o) in
        let i = counts_start (op_count_of r) in
        let l = drop i r in
        let m : length (counts_of w) ≡ 2 * k = length_counts w ∙ ap (λ n. 2 * n) long_w in
        let e = begins (2 * suc k) l (counts_of w) (bytes16 v) (counts_at (suc k) (o ∷ w) a) in
        let low : get_or r (i + 2 * k) 0 ≡ v % 256 = sym (get_or-drop i r (2 * k) 0) ∙ ap (λ l. get_or l (2 * k) 0) e ∙ get_or_at (counts_of w) (v % 256) _ 0 (2 * k) m in
        let j : suc (i + 2 * k) ≡ i + (length (counts_of w) + 1) = omega arith in
        let high : get_or r (suc (i + 2 * k)) 0 ≡ v / 256 % 256 =
        ap (λ j. get_or r j 0) j ∙ sym (get_or-drop i r (length (counts_of w) + 1) 0) ∙ ap (λ l. get_or l (length (counts_of w) + 1) 0) e ∙ get_or-append-add (counts_of w) _ 1 0 in
        let f = count_few o w a.bases a.texts in
        ap₂ (λ x y. x + 256 * y) low high ∙ omega arith
