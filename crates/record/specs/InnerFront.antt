-- Going through a record that was checked: what still lies ahead. Only contracts of `inner` cite this.
use Rattle.std.specs.Prelude.{ℕ, ◌-◌, ◌+◌, ◌≤◌, ◌<◌, List, map, [], ◌∷◌, drop, length, take, T, eqb, cond, ◌≡◌}
use Rattle.buffers.specs.Lists.{all_of}
use Rattle.characters.specs.Text.{Char, chars}
use Rattle.characters.specs.Form.{within, is_well_formed}
use Rattle.characters.specs.Chars.{number_of_chars}
use Rattle.edits.specs.Sequence.{Seq}
use Rattle.edits.specs.Op.{Op, retain, insert, delete, if_zero, cut, rest, front}
use Rattle.record.specs.Layout.{op_count_of, start_of_text, max_ops, insert_kind, retain_kind, delete_kind}
use Rattle.record.specs.Record.{Entry, entries_from, ByteSeq, operations, in_chars, sound_entry, insert_bytes, well_inserted, in_bytes, inserted}
use Rattle.record.specs.declared.inner.Front.{Front}

-- the operations from k on: as entries, and as operations where their text begins at `at`
abbrev pub entries_left : List ℕ → ℕ → List Entry
entries_left r k = entries_from r k (op_count_of r - k)

unfoldable pub byte_ops_left : List ℕ → ℕ → ℕ → ByteSeq
byte_ops_left r k at = operations (entries_left r k) (drop at r)

unfoldable pub ops_left : List ℕ → ℕ → ℕ → Seq
unfolding byte_ops_left in_chars
ops_left r k at = map in_chars (byte_ops_left r k at)

-- `at` is a place at which the text of the operations from k on can begin
pub record Place (r : List ℕ) (k at : ℕ) : Type 0 where
  pub few : op_count_of r ≤ max_ops
  pub header : start_of_text (op_count_of r) ≤ length r
  pub index : k ≤ op_count_of r
  pub room : at + insert_bytes (entries_left r k) ≤ length r
  pub sound : T (all_of sound_entry (entries_left r k))
  pub texts : T (all_of well_inserted (byte_ops_left r k at))

-- the bytes of the front's text
abbrev pub front_text : List ℕ → Front → List ℕ
front_text r f = take (f.to - f.from) (drop f.from r)

-- the front's operation, and with it all that lies ahead: nothing where no character is left of it
abbrev pub front_op : List ℕ → Front → Op Char
front_op r f = cond (eqb f.kind retain_kind) (retain f.left) (cond (eqb f.kind insert_kind) (insert (chars (front_text r f))) (delete f.left))

unfoldable pub ahead : List ℕ → Front → Seq
unfolding chars ops_left
ahead r f = if_zero f.left [] (front_op r f ∷ ops_left r f.next f.to)

-- a front at its place: kind 0 is the end, and else some characters are left
pub record Stands (r : List ℕ) (f : Front) : Type 0 where
  pub place : Place r f.next f.to
  pub known : T (within 0 delete_kind f.kind)
  pub ended : f.kind ≡ 0 → f.left ≡ 0
  pub some : 0 < f.kind → 0 < f.left
  pub small : f.left < 65536
  pub part : f.from ≤ f.to
  pub text : f.kind ≡ insert_kind → T (is_well_formed (front_text r f)) × (f.left ≡ number_of_chars (front_text r f))
  pub none : (f.kind ≡ insert_kind → ⊥) → f.from ≡ f.to

-- `mid` cuts the front's text behind k characters
pub record Cut (r : List ℕ) (f : Front) (k mid : ℕ) : Type 0 where
  pub above : f.from ≤ mid
  pub below : mid ≤ f.to
  pub first : take (mid - f.from) (drop f.from r) ≡ inserted (in_bytes (cut k (front_op r f)))
  pub second : take (f.to - mid) (drop mid r) ≡ inserted (in_bytes (rest k (front_op r f)))

-- `f` is the front of the operations from k on
pub record Loads (r : List ℕ) (k at : ℕ) (f : Front) : Type 0 where
  pub stands : Stands r f
  pub has : ahead r f ≡ ops_left r k at

-- `g` is the front once k characters of `f` are used up
pub record Leaves (r : List ℕ) (f : Front) (k : ℕ) (g : Front) : Type 0 where
  pub stands : Stands r g
  pub has : ahead r g ≡ front (rest k (front_op r f)) (ops_left r f.next f.to)
