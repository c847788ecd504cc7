-- What the functions here and `rebase` promise each other, and `accept`. No entry's contract cites this.
use Rattle.std.specs.Prelude.{◌≡◌, ℕ, ◌+◌, ◌≤◌, true, false, T, List, ◌++◌, map, length, take, drop, Result, Ok, Err}
use Rattle.buffers.specs.InnerOver.{over}
use Rattle.buffers.specs.Buffers.{put_at_front}
use Rattle.characters.specs.Text.{Char}
use Rattle.edits.specs.Sequence.{Seq}
use Rattle.edits.specs.Transform.{Sides}
use Rattle.answers.specs.declared.Refusal.TheVariants.{Limit}
use Rattle.record.specs.Layout.{size_of, start_of_text, max_ops, max_record}
use Rattle.record.specs.Record.{encode, ops, record_fault, in_bytes, text, fits}
use Rattle.places.specs.InnerOps.{relocated_ops}
use Rattle.emitter.specs.InnerEmit.{Marked, size_in, headed}
use Rattle.emitter.specs.declared.inner.Emitter.{Emitter}
use Rattle.steps.specs.InnerBoth.{SizedBoth}
use Rattle.steps.specs.declared.inner.Pair.{Pair}
use Rattle.session_log.specs.Log.{readable_from, encode_all}
use Rattle.session.specs.Rows.{rebase}
use Rattle.counterparts.specs.declared.inner.Progress.{Progress}
use Rattle.counterparts.specs.declared.inner.Stop.{Stop}
use Rattle.counterparts.specs.declared.inner.Stop.TheVariants as stop

-- n records that can be read stand end to end in `l`, where the length is `len` before them
pub record RecordsFollow (n len : ℕ) (l : List ℕ) : Type 0 where
  pub reads : T (readable_from n len l)

-- the record of e stands at the front of a buffer
pub record Holds (e : Seq) (cur : List ℕ) : Type 0 where
  pub fault : record_fault cur ≡ 0
  pub edit : ops cur ≡ e
  pub bytes_are : take (size_of cur) cur ≡ encode e

-- what both insert is the same text
pub record SameText (s t : Seq) : Type 0 where
  pub same_text : text (map in_bytes s) ≡ text (map in_bytes t)

-- both sides keep the limits
pub record Fit (s : Sides Char) : Type 0 where
  pub left : T (fits s.left)
  pub right : T (fits s.right)

-- both sides, written to stages but for the text, keep the limits and have places there; the left has room in a buffer of `room` bytes
pub record Ready (slots : ℕ) (s : Sides Char) (p : Pair) (room : ℕ) (next side : List ℕ) : Type 0 where
  pub sized : SizedBoth s p
  pub left : Marked slots s.left next
  pub right : Marked slots s.right side
  pub fit : Fit s
  pub few_left : p.e.ops ≤ slots
  pub few_right : p.f.ops ≤ slots
  pub room_left : size_in p.e ≤ room

-- what was staged, at the front of a buffer, with the text of a record of n operations
abbrev pub with_text : ℕ → Emitter → List ℕ → ℕ → List ℕ → List ℕ → List ℕ
with_text slots e stage n rec out =
    headed e (relocated_ops slots e.ops e.ops stage (over (start_of_text e.ops) (take e.text (drop (start_of_text n) rec)) out))

-- if there is room up to `to`, it stands from `from` on
pub record StoresCounterpart (slots : ℕ) (f : Emitter) (side : List ℕ) (n : ℕ) (rec : List ℕ) (from to : ℕ) (parts parts' : List ℕ) : Type 0 where
  pub keeps : to ≤ length parts → parts' ≡ take from parts ++ with_text slots f side n rec (drop from parts)

-- the edit in a buffer is moved past one revision
pub record ReplacesEdit (s : Sides Char) (rec : List ℕ) (spot r : Progress) (cur' parts parts' : List ℕ) : Type 0 where
  pub holds : Holds s.left cur'
  pub at_is : r.at ≡ spot.at + size_of rec
  pub bytes_are : r.bytes ≡ spot.bytes + length (encode s.right)
  pub given : r.bytes ≤ length parts → parts' ≡ take spot.bytes parts ++ put_at_front (encode s.right) (drop spot.bytes parts)

-- ---- past all

-- the edit e moved past the row vs, in a buffer; the counterparts have so many bytes
pub record Rebased (e : Seq) (vs : List Seq) (bytes : ℕ) (cur' : List ℕ) : Type 0 where
  pub kept : (rebase e vs).kept ≡ true
  pub bytes_are : bytes ≡ length (encode_all (rebase e vs).counterparts)
  pub holds : Holds (rebase e vs).edit cur'

-- in a buffer of `room` bytes and stages with places for `slots` operations; the counterparts go to `parts`, if they have room there
abbrev pub RunsTo : ℕ → ℕ → Seq → List Seq → Result ℕ Stop → List ℕ → List ℕ → List ℕ → Type 0
RunsTo slots room e vs (Err (stop.Refused x)) cur' parts parts' = (x ≡ Limit) × ((rebase e vs).kept ≡ false)
RunsTo slots room e vs (Ok b) cur' parts parts' = Rebased e vs b cur' × (b ≤ length parts → parts' ≡ put_at_front (encode_all (rebase e vs).counterparts) parts)
RunsTo slots room e vs (Err stop.Short) cur' parts parts' = max_ops ≤ slots → max_record ≤ room → ⊥

pub record Runs (slots room : ℕ) (e : Seq) (vs : List Seq) (r : Result ℕ Stop) (cur' parts parts' : List ℕ) : Type 0 where
  pub runs : RunsTo slots room e vs r cur' parts parts'

-- what goes into the log, and to the output
pub record HandsOut (e : Seq) (vs : List Seq) (out cur' out' : List ℕ) : Type 0 where
  pub holds : Holds (rebase e vs).edit cur'
  pub given : out' ≡ put_at_front (encode_all (rebase e vs).counterparts) out
