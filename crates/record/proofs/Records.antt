-- Records: what is written is read again, and what is read without fault is what was written.
use Prim.Native.Nat.{ℕ, ◌*◌, ◌+◌, ◌≤◌, suc, ◌/◌, ◌%◌, zero, ◌<◌}
use native.Mathlib.Omega.{arith}
use mathlib.Core.Path.{◌≡◌, refl, sym, ap, ◌∙◌, ap₂}
use mathlib.Core.List.{List, [], ◌∷◌, map, ◌++◌, append_assoc, append-nil, map-map}
use lib.ListN.{length, length-append, length-map, drop, get_or, take, length-drop, length-take}
use lib.Dec.{T, le→leb, leb, leb→le}
use native.Mathlib.Nat.{add-zero}
use lib.Seq.{get_or-drop, drop-drop, take-append_seam, drop-append_seam, take_at, drop_at, take-add, length-take-le, drop-cons, take-length}
use mathlib.Core.Logic.{◌⊎◌, inl, inr}
use Rattle.buffers.specs.Words.{words, word_at}
use Rattle.buffers.specs.Lists.{all_of}
use Rattle.buffers.proofs.Tests.{both}
use Rattle.characters.specs.Form.{within}
use Rattle.edits.specs.Op.{Op, size, retain, insert, delete, total, base, target}
use Rattle.edits.specs.Sequence.{Seq}
use Rattle.edits.specs.Built.{full, chained, built}
use Rattle.edits.proofs.Links.{Links, built_links, positive}
use Rattle.record.specs.Record.{code, Entry, in_bytes, text, encode, fits, ByteSeq, entries_from, operations, insert_bytes, sound_entry, in_chars, entries, text_of, byte_ops, ops, gives_chars, record_fault, well_inserted}
use Rattle.record.specs.Layout.{start_of_text, op_count_of, kinds_start, counts_start, text_bytes_of, base_of, target_of, size_of, max_record}
use Rattle.record.proofs.Sequences.{fits_limits, in_bytes_size, in_chars_in_bytes, in_bytes_well, in_bytes_chained, in_bytes_base, in_bytes_target, Good, in_chars_size, in_bytes_in_chars}
use Rattle.record.proofs.Faults.{limits, faultless, InLimits, Faultless}

-- ---- written, then read

abbrev entry_of : Op ℕ → Entry
entry_of o = record { kind = code o; count = size o }

length_words : (ns : List ℕ) → length (words ns) ≡ 2 * length ns
length_words [] = refl
length_words (n ∷ ns) = omega (arith, length_words ns)

pub encode_length : (s : Seq) → length (encode s) ≡ start_of_text (length s) + length (text (map in_bytes s))
unfolding encode
encode_length s = simp (length-append, length_words, length-map) (omega arith)

-- 8 + 3 * 1024 + 32768
pub encode_small : (s : Seq) → T (fits s) → length (encode s) ≤ max_record
encode_small s h = let l = (fits_limits s).0 h in omega (arith, encode_length s, l.ops, l.text_bytes)

get_d_front : (r : List ℕ) (i : ℕ) (x : ℕ) (l : List ℕ) → drop i r ≡ x ∷ l → get_or r i 0 ≡ x
get_d_front r i x l e = ap (λ j. get_or r j 0) (sym (add-zero i)) ∙ sym (get_or-drop i r 0 0) ∙ ap (λ l. get_or l 0 0) e

drop_front : (r : List ℕ) (i j k : ℕ) (l : List ℕ) → drop i r ≡ l → i + k ≡ j → drop j r ≡ drop k l
drop_front r i j k l e h = rw (← h, ← drop-drop k i r, e)

word_front : (r : List ℕ) (i n : ℕ) (l : List ℕ) → drop i r ≡ n % 256 ∷ n / 256 ∷ l → word_at r i ≡ n
word_front r i n l e =
    let a = get_d_front r i (n % 256) _ e in
    let b = get_d_front r (suc i) (n / 256) l (drop_front r i (suc i) 1 _ e (omega arith)) in
    rw (a, b) (omega arith)

entry_path : {k n k' n' : ℕ} → k ≡ k' → n ≡ n' → ◌≡◌ {A = Entry} (record { kind = k; count = n }) (record { kind = k'; count = n' })
entry_path p q = λ i. record { kind = p i; count = q i }

entries_front : (r : List ℕ) (k : ℕ) (q : ByteSeq) (y z : List ℕ) → drop (kinds_start + k) r ≡ map code q ++ y
    → drop (counts_start (op_count_of r) + 2 * k) r ≡ words (map size q) ++ z → entries_from r k (length q) ≡ map entry_of q
entries_front r k [] y z e f = refl
entries_front r k (o ∷ q) y z e f =
    ap₂ ◌∷◌ (entry_path (get_d_front r (kinds_start + k) _ _ e) (word_front r (counts_start (op_count_of r) + 2 * k) (size o) _ f))
    (entries_front r (suc k) q y z (drop_front r (kinds_start + k) (kinds_start + suc k) 1 _ e (omega arith))
    (drop_front r (counts_start (op_count_of r) + 2 * k) (counts_start (op_count_of r) + 2 * suc k) 2 _ f (omega arith)))

operations_front : (q : ByteSeq) → operations (map entry_of q) (text q) ≡ q
operations_front [] = refl
operations_front (retain n ∷ q) = ap (λ r. retain n ∷ r) (operations_front q)
operations_front (insert x ∷ q) =
    ap₂ (λ y r. insert y ∷ r) (take-append_seam x (text q)) (ap (operations (map entry_of q)) (drop-append_seam x (text q)) ∙ operations_front q)
operations_front (delete n ∷ q) = ap (λ r. delete n ∷ r) (operations_front q)

insert_bytes_front : (q : ByteSeq) → insert_bytes (map entry_of q) ≡ length (text q)
insert_bytes_front [] = refl
insert_bytes_front (retain n ∷ q) = insert_bytes_front q
insert_bytes_front (insert x ∷ q) = simp length-append (ap (λ n. length x + n) (insert_bytes_front q))
insert_bytes_front (delete n ∷ q) = insert_bytes_front q

sound_entries : (s : Seq) → Links s → T (all_of sound_entry (map entry_of (map in_bytes s)))
unfolding within
sound_entries [] h = tt
sound_entries (o ∷ s) h =
    (both (sound_entry (entry_of (in_bytes o))) _).1
    ((both (within 1 3 (code (in_bytes o))) _).1 (kinds (in_bytes o), le→leb 1 (size (in_bytes o)) (in_bytes_size o h.0)), sound_entries s h.2)
  where
    kinds : (o : Op ℕ) → T (within 1 3 (code o))
    kinds (retain n) = tt
    kinds (insert x) = tt
    kinds (delete n) = tt

module _ (s : Seq) (more : List ℕ) where
  sizes : (op_count_of (encode s ++ more) ≡ length s) × (text_bytes_of (encode s ++ more) ≡ length (text (map in_bytes s))) × (base_of (encode s ++ more) ≡ base s) × (target_of (encode s ++ more) ≡ target s)
  unfolding encode
  sizes = (omega arith, omega arith, omega arith, omega arith)

  pub records_encode : op_count_of (encode s ++ more) ≡ length s
  records_encode = sizes.0

  pub base_encode : base_of (encode s ++ more) ≡ base s
  base_encode = sizes.2

  pub target_encode : target_of (encode s ++ more) ≡ target s
  target_encode = sizes.3

  pub size_encode : size_of (encode s ++ more) ≡ length (encode s)
  size_encode = omega (arith, sizes, encode_length s)

  pub drop_kinds : drop kinds_start (encode s ++ more) ≡ map code (map in_bytes s) ++ (words (map size (map in_bytes s)) ++ (text (map in_bytes s) ++ more))
  unfolding encode
  drop_kinds = simp append_assoc

  pub drop_counts : drop (counts_start (op_count_of (encode s ++ more))) (encode s ++ more) ≡ words (map size (map in_bytes s)) ++ (text (map in_bytes s) ++ more)
  drop_counts = drop_front (encode s ++ more) kinds_start _ (op_count_of (encode s ++ more)) _ drop_kinds refl ∙ drop_at (map code (map in_bytes s)) _ (op_count_of (encode s ++ more)) (simp length-map (sym records_encode))

  drop_text : drop (start_of_text (op_count_of (encode s ++ more))) (encode s ++ more) ≡ text (map in_bytes s) ++ more
  drop_text =
      drop_front (encode s ++ more) (counts_start (op_count_of (encode s ++ more))) (start_of_text (op_count_of (encode s ++ more))) (2 * op_count_of (encode s ++ more)) _ drop_counts (omega arith)
      ∙ drop_at (words (map size (map in_bytes s))) _ (2 * op_count_of (encode s ++ more)) (length_words (map size (map in_bytes s)) ∙ simp length-map (ap (λ n. 2 * n) (sym records_encode)))

  entries_encode : entries (encode s ++ more) ≡ map entry_of (map in_bytes s)
  unfolding entries
  entries_encode =
      ap (entries_from (encode s ++ more) 0) (records_encode ∙ sym (length-map s in_bytes))
      ∙ entries_front (encode s ++ more) 0 (map in_bytes s) _ _ drop_kinds (ap (λ n. drop n (encode s ++ more)) (add-zero (counts_start (op_count_of (encode s ++ more)))) ∙ drop_counts)

  text_encode : text_of (encode s ++ more) ≡ text (map in_bytes s)
  unfolding text_of
  text_encode = ap (take (text_bytes_of (encode s ++ more))) drop_text ∙ take_at (text (map in_bytes s)) more (text_bytes_of (encode s ++ more)) (sym sizes.1)

  pub byte_ops_encode : byte_ops (encode s ++ more) ≡ map in_bytes s
  unfolding byte_ops
  byte_ops_encode = ap₂ operations entries_encode text_encode ∙ operations_front (map in_bytes s)

  pub ops_encode : ops (encode s ++ more) ≡ s
  unfolding ops
  ops_encode = ap (map in_chars) byte_ops_encode ∙ in_chars_in_bytes s

  pub fault_encode : Good s → record_fault (encode s ++ more) ≡ 0
  fault_encode g =
      let l = (fits_limits s).0 g.in_limits in
      let h = (both (all_of full s) (chained s)).0 (unfold built in g.is_built) in
      let n = length-append (encode s) more in
      let m = encode_length s in
      (faultless (encode s ++ more)).1 (record {
        in_limits = (limits (encode s ++ more)).1 (record {
          header = omega arith;
          ops = omega (arith, records_encode);
          text_bytes = omega (arith, sizes);
          bases = omega (arith, sizes);
          targets = omega (arith, sizes);
          whole = omega (arith, size_encode);
        });
        sound = rw entries_encode (sound_entries s (built_links s g.is_built));
        adds_up = ap insert_bytes entries_encode ∙ insert_bytes_front (map in_bytes s) ∙ sym sizes.1;
        texts = rw byte_ops_encode (in_bytes_well s);
        chain = rw (byte_ops_encode, in_bytes_chained) h.1;
        base_is = ap base byte_ops_encode ∙ in_bytes_base s ∙ sym base_encode;
        target_is = ap (total gives_chars) byte_ops_encode ∙ in_bytes_target s ∙ sym target_encode;
      })

-- ---- read without fault

pub sound_kind : (k : ℕ) → T (within 1 3 k) → (k ≡ 1) ⊎ ((k ≡ 2) ⊎ (k ≡ 3))
unfolding within
sound_kind zero h = absurd h
sound_kind (suc zero) h = inl refl
sound_kind (suc (suc zero)) h = inr (inl refl)
sound_kind (suc (suc (suc zero))) h = inr (inr refl)
sound_kind (suc (suc (suc (suc k)))) h =
    let l = leb→le (suc (suc (suc (suc k)))) 3 ((both (leb 1 (suc (suc (suc (suc k))))) _).0 h).1 in absurd (omega arith)

abbrev Reads : List Entry → List ℕ → Type 0
Reads es t = (map entry_of (operations es t) ≡ es) × (text (operations es t) ≡ take (insert_bytes es) t)

reads_step : (k n : ℕ) (es : List Entry) (t : List ℕ) → ((u : List ℕ) → insert_bytes es ≤ length u → Reads es u) → (k ≡ 1) ⊎ ((k ≡ 2) ⊎ (k ≡ 3))
    → insert_bytes (record { kind = k; count = n } ∷ es) ≤ length t → Reads (record { kind = k; count = n } ∷ es) t
reads_step k n es t ih (inl p) = rw p (λ h. (ap (λ l. record { kind = 1; count = n } ∷ l) (ih t h).0, (ih t h).1))
reads_step k n es t ih (inr (inl p)) =
    rw p (λ h.
    let j = ih (drop n t) (simp length-drop (omega arith)) in (
      ap₂ (λ m l. record { kind = 2; count = m } ∷ l) (length-take-le n t (omega arith)) j.0,
      ap (λ l. take n t ++ l) j.1 ∙ sym (take-add n (insert_bytes es) t),
    ))
reads_step k n es t ih (inr (inr p)) = rw p (λ h. (ap (λ l. record { kind = 3; count = n } ∷ l) (ih t h).0, (ih t h).1))

reads : (es : List Entry) (t : List ℕ) → T (all_of sound_entry es) → insert_bytes es ≤ length t → Reads es t
reads [] t s h = (refl, refl)
reads (e ∷ es) t s h =
    let (a, b) = (both (sound_entry e) (all_of sound_entry es)).0 s in
    reads_step e.kind e.count es t (λ u k. reads es u b k) (sound_kind e.kind ((both (within 1 3 e.kind) _).0 a).0) h

length_entries : (r : List ℕ) (k n : ℕ) → length (entries_from r k n) ≡ n
length_entries r k zero = refl
length_entries r k (suc n) = ap suc (length_entries r (suc k) n)

in_chars_full : (q : ByteSeq) → T (all_of sound_entry (map entry_of q)) → T (all_of well_inserted q) → T (all_of full (map in_chars q))
in_chars_full [] s w = tt
in_chars_full (o ∷ q) s w =
    let (a, b) = (both (sound_entry (entry_of o)) (all_of sound_entry (map entry_of q))).0 s in
    let (c, d) = (both (well_inserted o) (all_of well_inserted q)).0 w in
    (both (full (in_chars o)) _).1
    ((positive (size (in_chars o))).1 (in_chars_size o c (leb→le 1 (size o) ((both (within 1 3 (code o)) _).0 a).1)), in_chars_full q b d)

-- two neighbouring parts of a list are one
pub joined : (r : List ℕ) (i j n m k : ℕ) → i + n ≡ j → n + m ≡ k → take n (drop i r) ++ take m (drop j r) ≡ take k (drop i r)
joined r i j n m k p q = rw (← p, ← q, take-add n m (drop i r), drop-drop)

-- every element is a byte
abbrev pub Bytes : List ℕ → Type 0
Bytes l = (i : ℕ) → get_or l i 0 < 256

module _ (r : List ℕ) (b : Bytes r) where
  pub words_at : (i : ℕ) (l : List ℕ) → i + 2 ≤ length r → words (word_at r i ∷ l) ≡ take 2 (drop i r) ++ words l
  words_at i l h =
      let x = b i in
      let y = b (suc i) in
      rw (drop-cons r i 0 (omega arith), drop-cons r (suc i) 0 (omega arith))
      (ap₂ (λ p q. p ∷ q ∷ words l) (omega arith) (omega arith))

  words_entries : (k n : ℕ) → counts_start (op_count_of r) + 2 * (k + n) ≤ length r
      → words (map (λ e. e.count) (entries_from r k n)) ≡ take (2 * n) (drop (counts_start (op_count_of r) + 2 * k) r)
  words_entries k zero h = refl
  words_entries k (suc n) h =
      let i = counts_start (op_count_of r) + 2 * k in
      words_at i (map (λ e. e.count) (entries_from r (suc k) n)) (omega arith)
      ∙ ap (λ l. take 2 (drop i r) ++ l) (words_entries (suc k) n (omega arith))
      ∙ joined r i (counts_start (op_count_of r) + 2 * suc k) 2 (2 * n) (2 * suc n) (omega arith) (omega arith)

kinds_entries : (r : List ℕ) (k n : ℕ) → kinds_start + k + n ≤ length r → map (λ e. e.kind) (entries_from r k n) ≡ take n (drop (kinds_start + k) r)
kinds_entries r k zero h = refl
kinds_entries r k (suc n) h =
    let e : kinds_start + suc k ≡ suc (kinds_start + k) = omega arith in
    rw (drop-cons r (kinds_start + k) 0 (omega arith)) (ap (λ l. get_or r (kinds_start + k) 0 ∷ l) (kinds_entries r (suc k) n (omega arith) ∙ ap (λ j. take n (drop j r)) e))

module _ (r : List ℕ) (z : record_fault r ≡ 0) where
  facts : Faultless r
  facts = (faultless r).0 z

  bounds : InLimits r
  bounds = (limits r).0 facts.in_limits

  pub text_length : length (text_of r) ≡ text_bytes_of r
  unfolding text_of
  text_length = simp (length-take, length-drop) (omega (arith, bounds))

  are : Reads (entries r) (text_of r)
  are = reads (entries r) (text_of r) facts.sound (omega (arith, facts.adds_up, text_length))

  in_bytes_entries : map entry_of (byte_ops r) ≡ entries r
  unfolding byte_ops
  in_bytes_entries = are.0

  pub in_bytes_text : text (byte_ops r) ≡ text_of r
  unfolding byte_ops
  in_bytes_text = are.1 ∙ ap (λ n. take n (text_of r)) (facts.adds_up ∙ sym text_length) ∙ take-length (text_of r)

  pub in_bytes_ops : map in_bytes (ops r) ≡ byte_ops r
  unfolding ops
  in_bytes_ops = in_bytes_in_chars (byte_ops r) facts.texts

  pub ops_text : length (text (map in_bytes (ops r))) ≡ text_bytes_of r
  ops_text = ap (λ q. length (text q)) in_bytes_ops ∙ ap length in_bytes_text ∙ text_length

  pub byte_ops_length : length (byte_ops r) ≡ op_count_of r
  unfolding entries
  byte_ops_length = sym (length-map (byte_ops r) entry_of) ∙ ap length in_bytes_entries ∙ length_entries r 0 (op_count_of r)

  pub ops_length : length (ops r) ≡ op_count_of r
  unfolding ops
  ops_length = length-map (byte_ops r) in_chars ∙ byte_ops_length

  pub ops_base : base (ops r) ≡ base_of r
  ops_base = sym (in_bytes_base (ops r)) ∙ ap base in_bytes_ops ∙ facts.base_is

  pub ops_target : target (ops r) ≡ target_of r
  ops_target = sym (in_bytes_target (ops r)) ∙ ap (total gives_chars) in_bytes_ops ∙ facts.target_is

  ops_chained : T (chained (ops r))
  ops_chained = rw (← in_bytes_chained (ops r), in_bytes_ops) facts.chain

  pub ops_good : Good (ops r)
  ops_good = record {
    is_built = unfold built ops in (both (all_of full (map in_chars (byte_ops r))) _).1
        (in_chars_full (byte_ops r) (rw in_bytes_entries facts.sound) facts.texts, ops_chained);
    in_limits = (fits_limits (ops r)).1 (record {
      ops = omega (arith, ops_length, bounds);
      text_bytes = rw (in_bytes_ops, in_bytes_text) (omega (arith, text_length, bounds));
      bases = omega (arith, ops_base, bounds);
      targets = omega (arith, ops_target, bounds);
    });
  }

  header : Bytes r → words (op_count_of r ∷ text_bytes_of r ∷ base_of r ∷ target_of r ∷ []) ≡ take 8 r
  header b =
      words_at r b 0 (text_bytes_of r ∷ base_of r ∷ target_of r ∷ []) (omega (arith, bounds))
      ∙ ap (λ l. take 2 r ++ l)
      (words_at r b 2 (base_of r ∷ target_of r ∷ []) (omega (arith, bounds))
      ∙ ap (λ l. take 2 (drop 2 r) ++ l)
      (words_at r b 4 (target_of r ∷ []) (omega (arith, bounds))
      ∙ ap (λ l. take 2 (drop 4 r) ++ l) (words_at r b 6 [] (omega (arith, bounds)) ∙ append-nil (take 2 (drop 6 r)))
      ∙ joined r 4 6 2 2 4 refl refl)
      ∙ joined r 2 4 2 4 6 refl refl)
      ∙ joined r 0 2 2 6 8 refl refl

  -- the record of the sequence read is the record
  pub encode_ops : Bytes r → encode (ops r) ≡ take (size_of r) r
  unfolding encode
  encode_ops b =
      let R = op_count_of r in
      let m = text_bytes_of r in
      let k : map code (byte_ops r) ≡ take R (drop 8 r) =
      sym (map-map (λ (e : Entry). e.kind) entry_of (byte_ops r)) ∙ ap (map (λ e. e.kind)) in_bytes_entries ∙ unfold entries in kinds_entries r 0 R (omega (arith, bounds)) in
      let c : words (map size (byte_ops r)) ≡ take (2 * R) (drop (counts_start R) r) =
      ap words (sym (map-map (λ (e : Entry). e.count) entry_of (byte_ops r)) ∙ ap (map (λ e. e.count)) in_bytes_entries)
      ∙ unfold entries in words_entries r b 0 R (omega (arith, bounds)) ∙ ap (λ n. take (2 * R) (drop n r)) (add-zero (counts_start R)) in
      let t : text (byte_ops r) ≡ take m (drop (start_of_text R) r) = unfold text_of in in_bytes_text in
      ap (λ q. words (length (ops r) ∷ length (text q) ∷ base (ops r) ∷ target (ops r) ∷ []) ++ (map code q ++ (words (map size q) ++ text q))) in_bytes_ops
      ∙ (λ i. words (ops_length i ∷ (ap length in_bytes_text ∙ text_length) i ∷ ops_base i ∷ ops_target i ∷ []) ++ (k i ++ (c i ++ t i)))
      ∙ ap (λ l. l ++ (take R (drop 8 r) ++ (take (2 * R) (drop (counts_start R) r) ++ take m (drop (start_of_text R) r)))) (header b)
      ∙ ap (λ l. take 8 r ++ l)
      (ap (λ l. take R (drop 8 r) ++ l) (joined r (counts_start R) (start_of_text R) (2 * R) m (2 * R + m) (omega arith) refl)
      ∙ joined r 8 (counts_start R) R (2 * R + m) (3 * R + m) refl (omega arith))
      ∙ joined r 0 8 8 (3 * R + m) (size_of r) refl (omega arith)
