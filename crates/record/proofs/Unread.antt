-- "Bytes behind an operand's own contents aren't read": with any others in their place, what is asked of a record stays.
use Prim.Native.Nat.{ℕ, zero, suc, ◌+◌, ◌*◌, ◌≤◌, ◌<◌}
use native.Mathlib.Omega.{arith}
use mathlib.Core.Path.{◌≡◌, refl, sym, ap, ap₂, ◌∙◌}
use mathlib.Core.Bool.{◌&&◌}
use mathlib.Core.List.{List, [], ◌∷◌, ◌++◌, map}
use lib.Dec.{eqb, leb}
use lib.ListN.{length, take, drop, get_or, get_or-append, length-append, length-drop}
use lib.Seq.{get_or-take, length-take-le, drop-append-le, take_at}
use borrow.Author.Tests.{le-leb}
use Rattle.buffers.specs.Lists.{all_of}
use Rattle.answers.specs.Answer.{success, needs, refused, unless_refused}
use Rattle.edits.specs.Op.{total, base}
use Rattle.edits.specs.Built.{chained}
use Rattle.buffers.specs.Words.{word_at}
use Rattle.record.specs.Layout.{max_ops, max_size, op_count_of, text_bytes_of, base_of, target_of, kinds_start, counts_start, start_of_text, size_of}
use Rattle.record.specs.Record.{entries_from, entries, text_of, operations, byte_ops, inserted, in_chars, ops, is_within_limits, sound_entry, insert_bytes, sound, well_inserted, gives_chars, adds, record_fault}
use Rattle.record.specs.Calls.{no_effect, check_call, base_call, target_call, noop_call, text_call, start_of_insert}
use Rattle.record.proofs.Walks.{drop_take}

-- all that a call reads of a record
pub record Alike (r s : List ℕ) : Type 0 where
  pub faults : record_fault r ≡ record_fault s
  pub entered : (k n : ℕ) → k + n ≤ op_count_of s → entries_from r k n ≡ entries_from s k n
  pub read : byte_ops r ≡ byte_ops s
  pub op_counts : op_count_of r ≡ op_count_of s
  pub bases : base_of r ≡ base_of s
  pub targets : target_of r ≡ target_of s
  pub sizes : size_of r ≡ size_of s

-- a record that is all there, and other bytes behind it
module _ (r more : List ℕ) (whole : size_of r ≤ length r) where
  abbrev pub other : List ℕ
  other = take (size_of r) r ++ more

  own_length : length (take (size_of r) r) ≡ size_of r
  own_length = length-take-le (size_of r) r whole

  at : (i : ℕ) → i < size_of r → get_or other i 0 ≡ get_or r i 0
  at i h = get_or-append (take (size_of r) r) more 0 i (omega (arith, own_length)) ∙ get_or-take (size_of r) r i 0 h

  word : (i : ℕ) → suc i < size_of r → word_at other i ≡ word_at r i
  word i h = ap₂ (λ x y. x + 256 * y) (at i (omega arith)) (at (suc i) h)

  same_records : op_count_of other ≡ op_count_of r
  same_records = word 0 (omega arith)

  same_text_bytes : text_bytes_of other ≡ text_bytes_of r
  same_text_bytes = word 2 (omega arith)

  same_size : size_of other ≡ size_of r
  same_size = omega (arith, same_records, same_text_bytes)

  same_entries : (k n : ℕ) → k + n ≤ op_count_of r → entries_from other k n ≡ entries_from r k n
  same_entries k zero h = refl
  same_entries k (suc n) h =
      ap₂ ◌∷◌ (λ i. record { kind = at (kinds_start + k) (omega arith) i; count = (ap (λ m. word_at other (counts_start m + 2 * k)) same_records ∙ word (counts_start (op_count_of r) + 2 * k) (omega arith)) i }) (same_entries (suc k) n (omega arith))

  all_entries : entries other ≡ entries r
  unfolding entries
  all_entries = ap (entries_from other 0) same_records ∙ same_entries 0 (op_count_of r) (omega arith)

  same_text : text_of other ≡ text_of r
  unfolding text_of
  same_text =
      let t = start_of_text (op_count_of r) in
      let b = text_bytes_of r in
      ap₂ (λ n m. take n (drop (start_of_text m) other)) same_text_bytes same_records
      ∙ ap (take b) (drop-append-le t (take (t + b) r) more (omega (arith, own_length)) ∙ ap (λ x. x ++ more) (drop_take t b r))
      ∙ take_at (take b (drop t r)) more b (length-take-le b (drop t r) (simp length-drop (omega (arith, whole))))

  same_ops : byte_ops other ≡ byte_ops r
  unfolding byte_ops
  same_ops = ap₂ operations all_entries same_text

  -- both are whole, and their sizes are the same
  same_limits : is_within_limits other ≡ is_within_limits r
  unfolding is_within_limits
  same_limits =
      let l : length other ≡ size_of r + length more = length-append (take (size_of r) r) more ∙ ap (λ n. n + length more) own_length in
      let a : leb 8 (length other) ≡ leb 8 (length r) = le-leb 8 (length other) (omega arith) ∙ sym (le-leb 8 (length r) (omega arith)) in
      let b : leb (size_of other) (length other) ≡ leb (size_of r) (length r) =
      le-leb (size_of other) (length other) (omega (arith, same_size)) ∙ sym (le-leb (size_of r) (length r) whole) in
      λ i. a i && (leb (same_records i) max_ops && (leb (same_text_bytes i) max_size && (leb (word 4 (omega arith) i) max_size && (leb (word 6 (omega arith) i) max_size && b i))))

  same_sound : sound other ≡ sound r
  unfolding sound
  same_sound = ap₂ (λ es n. all_of sound_entry es && eqb (insert_bytes es) n) all_entries same_text_bytes

  same_adds : adds other ≡ adds r
  unfolding adds
  same_adds = λ i. eqb (base (same_ops i)) (word 4 (omega arith) i) && eqb (total gives_chars (same_ops i)) (word 6 (omega arith) i)

  same_fault : record_fault other ≡ record_fault r
  unfolding record_fault
  same_fault =
      λ i. needs (same_limits i) 1 (needs (same_sound i) 2 (needs (all_of well_inserted (same_ops i)) 3 (needs (chained (same_ops i)) 4 (needs (same_adds i) 5 0))))

  pub behind_alike : Alike other r
  behind_alike = record { faults = same_fault; entered = same_entries; read = same_ops; op_counts = same_records; bases = word 4 (omega arith); targets = word 6 (omega arith); sizes = same_size }

pub same_seq : {r s : List ℕ} → Alike r s → ops r ≡ ops s
unfolding ops
same_seq a = ap (map in_chars) a.read

-- ---- what can be asked of a record, and the builders

module _ (r s : List ℕ) (a : Alike r s) where
  pub check_unread : check_call r ≡ check_call s
  unfolding check_call
  check_unread = λ i. unless_refused (a.faults i) refused (success (a.sizes i ∷ []))

  pub base_unread : base_call r ≡ base_call s
  unfolding base_call
  base_unread = λ i. unless_refused (a.faults i) refused (success (a.bases i ∷ []))

  pub target_unread : target_call r ≡ target_call s
  unfolding target_call
  target_unread = λ i. unless_refused (a.faults i) refused (success (a.targets i ∷ []))

  pub noop_unread : noop_call r ≡ noop_call s
  unfolding noop_call
  noop_unread = λ i. unless_refused (a.faults i) refused (success (no_effect (same_seq a i) ∷ []))

  -- the text of record k
  pub text_unread : (k : ℕ) → text_call r k ≡ text_call s k
  unfolding text_call
  text_unread k = λ i. unless_refused (a.faults i) (λ n. []) (get_or (map inserted (a.read i)) k [])

  -- and where it begins
  pub place_unread : (k : ℕ) → k ≤ op_count_of s → start_of_insert r k ≡ start_of_insert s k
  unfolding start_of_insert
  place_unread k h = λ i. start_of_text (a.op_counts i) + insert_bytes (a.entered 0 k (omega arith) i)
