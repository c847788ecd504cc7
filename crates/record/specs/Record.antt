-- The record of a sequence: document 01, "The record", and the refusals 1 to 5.
use Rattle.std.specs.Prelude.{ℕ, zero, suc, ◌+◌, List, [], ◌∷◌, ◌++◌, map, length, take, drop, Bool, ◌&&◌, cond, leb, eqb}
use Rattle.buffers.specs.Words.{words}
use Rattle.buffers.specs.Lists.{all_of}
use Rattle.characters.specs.Text.{Char, bytes, chars}
use Rattle.characters.specs.Form.{within, is_well_formed}
use Rattle.characters.specs.Chars.{number_of_chars}
use Rattle.edits.specs.Op.{Op, retain, insert, delete, size, base, target, total}
use Rattle.edits.specs.Sequence.{Seq}
use Rattle.edits.specs.Built.{chained}
use Rattle.answers.specs.Answer.{needs}
use Rattle.record.specs.Layout.{delete_kind, insert_kind, retain_kind, max_ops, max_size, kind_at, count_at, op_count_of, text_bytes_of, start_of_text, base_of, target_of, size_of}

-- a sequence as a record holds it: inserted text in bytes
abbrev pub ByteSeq : Type 0
ByteSeq = List (Op ℕ)

unfoldable pub in_bytes : Op Char → Op ℕ
unfolding bytes
in_bytes (retain n) = retain n
in_bytes (insert s) = insert (bytes s)
in_bytes (delete n) = delete n

unfoldable pub in_chars : Op ℕ → Op Char
unfolding chars
in_chars (retain n) = retain n
in_chars (insert t) = insert (chars t)
in_chars (delete n) = delete n

-- ---- writing

-- "1 retain, 2 insert, 3 delete"
abbrev pub code : Op ℕ → ℕ
code (retain n) = retain_kind
code (insert t) = insert_kind
code (delete n) = delete_kind

abbrev pub inserted : Op ℕ → List ℕ
inserted (retain n) = []
inserted (insert t) = t
inserted (delete n) = []

-- all inserted text in record order
abbrev pub text : ByteSeq → List ℕ
text [] = []
text (o ∷ s) = inserted o ++ text s

unfoldable pub encode : Seq → List ℕ
unfolding in_bytes
encode s =
    let r = map in_bytes s in
    words (length s ∷ length (text r) ∷ base s ∷ target s ∷ []) ++ (map code r ++ (words (map size r) ++ text r))

-- a sequence keeps the limits
unfoldable pub fits : Seq → Bool
unfolding in_bytes
fits s =
    leb (length s) max_ops && (leb (length (text (map in_bytes s))) max_size && (leb (base s) max_size && leb (target s) max_size))

-- ---- reading

-- the kind and the count of one operation
pub record Entry : Type 0 where
  pub kind : ℕ
  pub count : ℕ

abbrev pub entry_at : List ℕ → ℕ → Entry
entry_at r k = record { kind = kind_at r k; count = count_at r k }

abbrev pub entries_from : List ℕ → ℕ → ℕ → List Entry
entries_from r k zero = []
entries_from r k (suc n) = entry_at r k ∷ entries_from r (suc k) n

unfoldable pub entries : List ℕ → List Entry
entries r = entries_from r 0 (op_count_of r)

unfoldable pub text_of : List ℕ → List ℕ
text_of r = take (text_bytes_of r) (drop (start_of_text (op_count_of r)) r)

abbrev pub operation : ℕ → ℕ → List ℕ → Op ℕ
operation k n t = cond (eqb k retain_kind) (retain n) (cond (eqb k insert_kind) (insert (take n t)) (delete n))

-- each insert takes its bytes off the text
abbrev pub operations : List Entry → List ℕ → ByteSeq
operations [] t = []
operations (e ∷ es) t = operation e.kind e.count t ∷ operations es (cond (eqb e.kind insert_kind) (drop e.count t) t)

unfoldable pub byte_ops : List ℕ → ByteSeq
unfolding entries text_of
byte_ops r = operations (entries r) (text_of r)

unfoldable pub ops : List ℕ → Seq
unfolding byte_ops in_chars
ops r = map in_chars (byte_ops r)

-- ---- checking

-- 1: a buffer shorter than 8 bytes or than the sizes require, over 1,024 operations, or another size over 32,768
unfoldable pub is_within_limits : List ℕ → Bool
is_within_limits r =
    leb 8 (length r)
    && (leb (op_count_of r) max_ops && (leb (text_bytes_of r) max_size && (leb (base_of r) max_size && (leb (target_of r) max_size && leb (size_of r) (length r)))))

-- 2: a kind that is none of 1, 2, 3, a count of 0, or insert counts that don't add up to the text bytes
abbrev pub sound_entry : Entry → Bool
sound_entry e = within retain_kind delete_kind e.kind && leb 1 e.count

abbrev pub insert_bytes : List Entry → ℕ
insert_bytes [] = 0
insert_bytes (e ∷ es) = cond (eqb e.kind insert_kind) (e.count + insert_bytes es) (insert_bytes es)

unfoldable pub sound : List ℕ → Bool
unfolding entries
sound r = all_of sound_entry (entries r) && eqb (insert_bytes (entries r)) (text_bytes_of r)

-- 3: one insert's bytes that aren't well-formed
abbrev pub well_inserted : Op ℕ → Bool
well_inserted o = is_well_formed (inserted o)

-- 5: how many characters an operation gives to the text after it
abbrev pub gives_chars : Op ℕ → ℕ
gives_chars (retain n) = n
gives_chars (insert t) = number_of_chars t
gives_chars (delete n) = 0

unfoldable pub adds : List ℕ → Bool
unfolding byte_ops
adds r = eqb (base (byte_ops r)) (base_of r) && eqb (total gives_chars (byte_ops r)) (target_of r)

-- the lowest of 1 to 5 that is found; 0 where none is
unfoldable pub record_fault : List ℕ → ℕ
unfolding is_within_limits sound byte_ops adds
record_fault r =
    needs (is_within_limits r) 1
    (needs (sound r) 2 (needs (all_of well_inserted (byte_ops r)) 3 (needs (chained (byte_ops r)) 4 (needs (adds r) 5 0))))
