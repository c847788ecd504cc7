-- What the functions that read a list promise each other. Only contracts of inner functions cite this.
use Rattle.std.specs.Prelude.{◌≡◌, ℕ, ◌+◌, ◌^◌, ◌<◌, ◌≤◌, true, false, T, ◌⊎◌, List, [], ◌++◌, map, reverse, length, drop, Option, Some, None}
use Rattle.characters.specs.Form.{is_well_formed}
use Rattle.characters.specs.Chars.{number_of_chars}
use Rattle.characters.specs.Text.{Char, chars}
use Rattle.edits.specs.Op.{Op, retain, insert, delete}
use Rattle.edits.specs.Build.{add, add_all}
use Rattle.edits.specs.Sequence.{Seq}
use Rattle.record.specs.Layout.{max_size}
use Rattle.record.specs.Record.{fits}
use Rattle.emitter.specs.declared.inner.Emitter.{Emitter}
use Rattle.emitter.specs.InnerEmit.{Under, Rep, Done, within_limits}
use Rattle.json_lists.specs.Form.{Item, Place, after_comma, after_value, at_start, at_end, reached, items, in_form}
use Rattle.json_lists.specs.InnerRuns.{capped, Onward, Fails}
use Rattle.json_lists.specs.Calls.{op_of, ops_of}
use Rattle.json_values.specs.InnerValues.{NoSpace}
use Rattle.json_values.specs.declared.inner.Value.{Value}
use Rattle.json_values.specs.declared.inner.Value.TheVariants.{Retain, Delete, Insert}
use Rattle.json_read.specs.declared.inner.Next.{Next}
use Rattle.json_read.specs.declared.inner.Next.TheVariants as next
use Rattle.json_read.specs.declared.inner.Values.{Values}

-- the emitter e with the buffer o stands for the sequence `acc`; or that passes a limit, and so do the emitter's numbers
pub record Held (n : ℕ) (out0 : List ℕ) (acc : Seq) (e : Emitter) (o : List ℕ) : Type 0 where
  pub small : Under (2 ^ 20) e
  pub is : Rep n out0 acc e o ⊎ ((fits (reverse acc) ≡ false) × (within_limits e ≡ false))

-- of some sequence
pub record Holds (e : Emitter) : Type 0 where
  pub n : ℕ
  pub out0 : List ℕ
  pub acc : Seq
  pub o : List ℕ
  pub held : Held n out0 acc e o

-- one operation more
pub record Feeds (n : ℕ) (p : Op Char) (e : Emitter) (o : List ℕ) (e' : Emitter) (o' : List ℕ) : Type 0 where
  pub keeps : (out0 : List ℕ) (acc : Seq) → Held n out0 acc e o → Held n out0 (add acc p) e' o'

-- a retain writes nothing
pub record FeedsRetain (k : ℕ) (e e' : Emitter) : Type 0 where
  pub feeds : (n : ℕ) (o : List ℕ) → Feeds n (retain k) e o e' o

-- the insert of a text that has so many bytes and characters
pub record FeedsText (n num_bytes num_chars : ℕ) (e : Emitter) (o : List ℕ) (e' : Emitter) (o' : List ℕ) : Type 0 where
  pub feeds : (t : List ℕ) → T (is_well_formed t) → num_bytes ≡ length t → num_chars ≡ number_of_chars t → Feeds n (insert (chars t)) e o e' o'

-- a value's numbers are as a scan gives them
abbrev pub Sized : Value → Type 0
Sized (Retain k) = k ≤ 65536
Sized (Delete k) = k ≤ 65536
Sized (Insert bytes chars) = chars ≤ bytes

abbrev pub FeedsValue : ℕ → Value → Emitter → List ℕ → Emitter → List ℕ → Type 0
FeedsValue n (Retain k) e o e' o' = Feeds n (retain k) e o e' o'
FeedsValue n (Delete k) e o e' o' = Feeds n (delete k) e o e' o'
FeedsValue n (Insert bytes chars) e o e' o' = FeedsText n bytes chars e o e' o'

-- more text than a record has
abbrev pub over_text : Emitter → Emitter
over_text e = record { ins = e.ins; del = e.del; ret = e.ret; ops = e.ops; text = max_size + 1; base = e.base; target = e.target }

-- ---- the list

-- behind a value, from `at` to `to`, stand only a structural character and white space, which lead to q
pub record Separates (t : List ℕ) (at : ℕ) (q : Place) (to : ℕ) : Type 0 where
  pub above : at < to
  pub below : to ≤ length t
  pub onward : Onward after_value (drop at t) q (drop to t)

abbrev pub FollowsAt : List ℕ → ℕ → Option Next → Type 0
FollowsAt t at None = Fails after_value (drop at t)
FollowsAt t at (Some (next.Value to)) = Separates t at after_comma to × NoSpace t to
FollowsAt t at (Some (next.End to)) = Separates t at at_end to

-- items are passed on the way from p to q
pub record PassesAll (l : List Item) (p : Place) (bs : List ℕ) (q : Place) (cs : List ℕ) : Type 0 where
  pub to : reached p bs ≡ reached q cs
  pub has : items p bs ≡ l ++ items q cs
  pub well : is_well_formed bs ≡ is_well_formed cs

-- the values from p to the end of the list are these, and the builders' sequence of them is emitted
pub record ValuesTo (n : ℕ) (t : List ℕ) (p : Place) (bs out0 : List ℕ) (r : Values) (o : List ℕ) : Type 0 where
  pub all : List Item
  pub passes : PassesAll all p bs at_end (drop r.at t)
  pub below : r.at ≤ length t
  pub emitted : Held n out0 (add_all [] (map op_of (map capped all))) r.e o

abbrev pub ValuesRead : ℕ → List ℕ → Place → List ℕ → List ℕ → Option Values → List ℕ → Type 0
ValuesRead n t p bs out0 None o = Fails p bs
ValuesRead n t p bs out0 (Some r) o = ValuesTo n t p bs out0 r o

-- the way from the start of the list to its first value, or to its end
pub record OpensTo (t : List ℕ) (q : Place) (to : ℕ) : Type 0 where
  pub below : to ≤ length t
  pub onward : Onward at_start t q (drop to t)

abbrev pub OpeningAt : List ℕ → Option Next → Type 0
OpeningAt t None = Fails at_start t
OpeningAt t (Some (next.Value to)) = OpensTo t after_comma to × NoSpace t to
OpeningAt t (Some (next.End to)) = OpensTo t at_end to

-- the sequence s is written but for its text and the sizes; or it passes a limit, and so do the emitter's numbers
pub record Finished (n : ℕ) (s : Seq) (out0 : List ℕ) (e : Emitter) (o : List ℕ) : Type 0 where
  pub small : Under (2 ^ 40) e
  pub is : Done n s out0 e o ⊎ ((fits s ≡ false) × (within_limits e ≡ false))

pub record FinishedBy (n : ℕ) (e : Emitter) (o : List ℕ) (e' : Emitter) (o' : List ℕ) : Type 0 where
  pub done : (out0 : List ℕ) (acc : Seq) → Held n out0 acc e o → Finished n (reverse acc) out0 e' o'

-- the list is of the form, and the sequence of its values is written
pub record ListIs (n : ℕ) (t out0 : List ℕ) (e : Emitter) (o : List ℕ) : Type 0 where
  pub form : in_form t ≡ true
  pub emitted : Finished n (ops_of (items at_start t)) out0 e o

abbrev pub ListRead : ℕ → List ℕ → List ℕ → Option Emitter → List ℕ → Type 0
ListRead n t out0 None o = in_form t ≡ false
ListRead n t out0 (Some e) o = ListIs n t out0 e o
