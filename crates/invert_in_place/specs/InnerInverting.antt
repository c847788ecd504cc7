-- What the functions below `invert` promise each other. No entry's contract cites this.
use Rattle.std.specs.Prelude.{◌≡◌, ℕ, ◌+◌, ◌-◌, ◌*◌, ◌<◌, ◌≤◌, Bool, true, false, cond, not, ◌&&◌, T, List, [], ◌∷◌, map, length, take, drop, ◌==◌, nat_le}
use Rattle.buffers.specs.InnerOver.{over}
use Rattle.characters.specs.Text.{chars}
use Rattle.characters.specs.Chars.{number_of_chars}
use Rattle.edits.specs.Op.{retain, insert, delete}
use Rattle.edits.specs.Built.{Built, next}
use Rattle.edits.specs.Sequence.{Seq}
use Rattle.edits.specs.Build.{add_all}
use Rattle.edits.specs.Invert.{undo_all, invert}
use Rattle.record.specs.Layout.{insert_kind, kind_at, count_at, delete_kind, start_of_text, op_count_of, max_ops, max_size}
use Rattle.record.specs.InnerFront.{ops_left}
use Rattle.record.specs.Record.{in_bytes, text, ops, record_fault}
use Rattle.places.specs.InnerOps.{written_op}
use Rattle.emitter.specs.InnerEmit.{texts_of, laid}
use Rattle.apply_steps.specs.InnerSteps.{Along}
use Rattle.invert_in_place.specs.declared.inner.Inversion.{Inversion}

-- how many bytes of text the inverse inserts
unfoldable pub inserted_back : List ℕ → List ℕ → ℕ
unfolding in_bytes invert ops chars
inserted_back r t = length (text (map in_bytes (invert (ops r) (chars t))))

-- an insert stands first
abbrev pub insert_first : Seq → Bool
insert_first [] = false
insert_first (retain n ∷ s) = false
insert_first (insert x ∷ s) = true
insert_first (delete n ∷ s) = false

-- no two inserts stand next to each other
abbrev pub inserts_apart : Seq → Bool
inserts_apart [] = true
inserts_apart (retain n ∷ s) = inserts_apart s
inserts_apart (insert x ∷ s) = not (insert_first s) && inserts_apart s
inserts_apart (delete n ∷ s) = inserts_apart s

-- a delete stands behind operation k of n
abbrev pub delete_behind : List ℕ → ℕ → ℕ → Bool
delete_behind r n k = cond (nat_le n (k + 1)) false (kind_at r (k + 1) == delete_kind)

-- operation k of n inserts the text from `at` up to `to`, which stands at `put`
abbrev pub restored : ℕ → ℕ → ℕ → ℕ → ℕ → List ℕ → List ℕ → List ℕ
restored n k at to put t o = over put (take (to - at) (drop at t)) (written_op n k insert_kind (to - at) o)

-- a state in going through
pub record Reached (n : ℕ) (r t : List ℕ) (s : Inversion) : Type 0 where
  pub along : Along r t s.k s.from s.at
  pub built : Built (ops_left r s.k s.from)
  pub inserts_stay_apart : T (inserts_apart (ops_left r s.k s.from))
  pub few : s.put ≤ start_of_text n + s.at

-- what the inversion of an operation is given: a record that was checked, and a text of at most four bytes for each of 32,768 characters
pub record Ready (n num : ℕ) (r t : List ℕ) (s : Inversion) (room : ℕ) : Type 0 where
  pub faultless : record_fault r ≡ 0
  pub ops : n ≡ op_count_of r
  pub few : n ≤ max_ops
  pub chars : num ≡ number_of_chars t
  pub bytes : length t ≤ 4 * max_size
  pub places : start_of_text n ≤ room
  pub reached : Reached n r t s
  pub ahead : s.k < n

-- operation k inserts the `count` bytes at `from`, which are num characters
pub record InsertAt (r : List ℕ) (k from count num : ℕ) : Type 0 where
  pub kind : kind_at r k ≡ insert_kind
  pub size : count ≡ count_at r k
  pub small : count < 65536
  pub chars : num ≡ number_of_chars (take (from + count - from) (drop from r))

-- behind these, held last operation first, what undoes the first of `s` is neither joined to the last nor put before it
abbrev pub apart : Seq → Seq → Bool
apart [] s = true
apart (retain m ∷ r) s = next (retain m) s
apart (insert x ∷ r) s = next (delete 0) s
apart (delete m ∷ r) s = next (delete 0) s

-- what undoes the operations gone through is held, and stands at its place over `o`
pub record Undone (n : ℕ) (r t o : List ℕ) (s : Inversion) (o' : List ℕ) : Type 0 where
  pub reached : Reached n r t s
  pub held : Seq
  pub many : length held ≡ s.k
  pub loose : T (apart held (ops_left r s.k s.from))
  pub texts : s.put ≡ start_of_text n + length (texts_of held)
  pub all : add_all held (undo_all (ops_left r s.k s.from) (chars (drop s.at t))) ≡ add_all [] (undo_all (ops r) (chars t))
  pub wrote : o' ≡ laid n held (texts_of held) o

-- one or two operations further
pub record Undoes (n : ℕ) (r t : List ℕ) (s : Inversion) (o : List ℕ) (u : Inversion) (o' : List ℕ) : Type 0 where
  pub forth : s.k < u.k
  pub keeps : (o₀ : List ℕ) → Undone n r t o₀ s o → Undone n r t o₀ u o'
