-- The emitter: the builders' sequence, written as a record while it is built. Only contracts of `inner` cite this.
use Rattle.std.specs.Prelude.{◌≡◌, ℕ, suc, ◌+◌, ◌*◌, ◌^◌, ◌≤◌, Bool, cond, ◌&&◌, List, [], ◌∷◌, ◌++◌, map, reverse, length, nat_le, Result, Ok, Err}
use Rattle.buffers.specs.InnerOver.{over, bytes16}
use Rattle.characters.specs.Text.{Char, bytes}
use Rattle.edits.specs.Op.{if_zero, base, target, size, Op, retain, insert, delete}
use Rattle.edits.specs.Sequence.{Seq}
use Rattle.edits.specs.Build.{add_all}
use Rattle.answers.specs.declared.Refusal.TheVariants.{Limit, Room}
use Rattle.record.specs.Layout.{kinds_start, counts_start, start_of_text, max_ops, max_size}
use Rattle.record.specs.Record.{text, in_bytes, code, inserted}
use Rattle.places.specs.InnerOps.{one, flushed_at}
use Rattle.emitter.specs.declared.inner.Emitter.{Emitter}
use Rattle.answers.specs.declared.Refusal.{Refusal}

-- ---- the pending group: an insert, a delete and a retain, each of which may be missing

-- how many operations there are once the group is flushed, and the buffer then
abbrev pub flushed_ops : Emitter → ℕ
flushed_ops e = e.ops + one e.ins + one e.del + one e.ret

abbrev pub flushed : ℕ → Emitter → List ℕ → List ℕ
flushed n e o = flushed_at n e.ops e.ins e.del e.ret o

-- a pending retain closes the group: what is added behind it begins another
unfoldable pub opens : Emitter → Emitter
opens e = if_zero e.ret e (record { ins = 0; del = 0; ret = 0; ops = flushed_ops e; text = e.text; base = e.base; target = e.target })

unfoldable pub flushed_if_closed : ℕ → Emitter → List ℕ → List ℕ
unfolding flushed_at
flushed_if_closed n e o = if_zero e.ret o (flushed n e o)

-- the numbers after an insert of `len` bytes and `num` characters, and after a delete of k characters
abbrev pub inserted_by : ℕ → ℕ → Emitter → Emitter
inserted_by len num e = record { ins = (opens e).ins + len; del = (opens e).del; ret = (opens e).ret; ops = (opens e).ops; text = e.text + len; base = e.base; target = e.target + num }

abbrev pub deleted_by : ℕ → Emitter → Emitter
deleted_by k e = record { ins = (opens e).ins; del = (opens e).del + k; ret = (opens e).ret; ops = (opens e).ops; text = e.text; base = e.base + k; target = e.target }

-- every number of an emitter is at most k
pub record Under (k : ℕ) (e : Emitter) : Type 0 where
  pub ins : e.ins ≤ k
  pub del : e.del ≤ k
  pub ret : e.ret ≤ k
  pub ops : e.ops ≤ k
  pub text : e.text ≤ k
  pub base : e.base ≤ k
  pub target : e.target ≤ k

abbrev pub nothing : Emitter
nothing = record { ins = 0; del = 0; ret = 0; ops = 0; text = 0; base = 0; target = 0 }

-- ---- what an emitter stands for

-- of a sequence held last operation first, the three parallel parts in record order
unfoldable pub kinds_of : Seq → List ℕ
unfolding in_bytes
kinds_of [] = []
kinds_of (o ∷ r) = kinds_of r ++ (code (in_bytes o) ∷ [])

unfoldable pub counts_of : Seq → List ℕ
unfolding in_bytes
counts_of [] = []
counts_of (o ∷ r) = counts_of r ++ bytes16 (size (in_bytes o))

unfoldable pub texts_of : Seq → List ℕ
unfolding in_bytes
texts_of [] = []
texts_of (o ∷ r) = texts_of r ++ inserted (in_bytes o)

-- these parts at their places in a record of n operations
unfoldable pub laid : ℕ → Seq → List ℕ → List ℕ → List ℕ
unfolding kinds_of counts_of over
laid n r t o = over kinds_start (kinds_of r) (over (counts_start n) (counts_of r) (over (start_of_text n) t o))

-- an operation in front, unless it is empty
abbrev pub kept : Op Char → Seq → Seq
kept o s = if_zero (size o) s (o ∷ s)

abbrev pub group : List Char → ℕ → ℕ → Seq → Seq
group x d r s = kept (retain r) (kept (delete d) (kept (insert x) s))

-- nothing is flushed yet, or a retain was flushed last and the group has an insert or a delete
pub data Fresh : List Char → ℕ → Seq → Type 0 where
  first : {x : List Char} {d : ℕ} → Fresh x d []
  later_insert : {c : Char} {x : List Char} {d m : ℕ} {s : Seq} → Fresh (c ∷ x) d (retain m ∷ s)
  later_delete : {x : List Char} {d m : ℕ} {s : Seq} → Fresh x (suc d) (retain m ∷ s)

-- the emitter `e` with the buffer `out` stands for the sequence `acc`, held last operation first, in a record of n operations that
-- is written over `out0`
pub record Rep (n : ℕ) (out0 : List ℕ) (acc : Seq) (e : Emitter) (out : List ℕ) : Type 0 where
  pub done : Seq
  pub held : List Char
  pub fresh : Fresh held e.del done
  pub is : acc ≡ group held e.del e.ret done
  pub ins : length (bytes held) ≡ e.ins
  pub ops : length done ≡ e.ops
  pub text : length (texts_of done ++ bytes held) ≡ e.text
  pub base_is : base acc ≡ e.base
  pub target_is : target acc ≡ e.target
  pub wrote : e.ops ≤ n → out ≡ laid n done (texts_of done ++ bytes held) out0

-- the emitter takes operations as the builders do
pub record Adds (n : ℕ) (ops : Seq) (e : Emitter) (o : List ℕ) (e' : Emitter) (o' : List ℕ) : Type 0 where
  pub keeps : (out0 : List ℕ) (acc : Seq) → Rep n out0 acc e o → Rep n out0 (add_all acc ops) e' o'
  pub under : (k : ℕ) → Under k e → Under (k + 270000 * length ops) e'

-- a retain writes nothing
pub record Retains (k : ℕ) (e e' : Emitter) : Type 0 where
  pub adds : (n : ℕ) (o : List ℕ) → Adds n (retain k ∷ []) e o e' o

-- the numbers of an emitter that has no group pending are the sizes of a sequence
pub record Sizes (s : Seq) (e : Emitter) : Type 0 where
  pub ops : e.ops ≡ length s
  pub text_bytes : e.text ≡ length (text (map in_bytes s))
  pub base_is : e.base ≡ base s
  pub target_is : e.target ≡ target s

-- all is written but the sizes
pub record Done (n : ℕ) (s : Seq) (out0 : List ℕ) (e : Emitter) (out : List ℕ) : Type 0 where
  pub small : Under (2 ^ 40) e
  pub sizes : Sizes s e
  pub wrote : e.ops ≤ n → out ≡ laid n (reverse s) (texts_of (reverse s)) out0

pub record Finishes (n : ℕ) (e : Emitter) (o : List ℕ) (e' : Emitter) (o' : List ℕ) : Type 0 where
  pub done : (out0 : List ℕ) (acc : Seq) → Rep n out0 acc e o → Done n (reverse acc) out0 e' o'

-- with the sizes in front
abbrev pub headed : Emitter → List ℕ → List ℕ
headed e o = over 6 (bytes16 e.target) (over 4 (bytes16 e.base) (over 2 (bytes16 e.text) (over 0 (bytes16 e.ops) o)))

pub record Writes (n : ℕ) (s : Seq) (out0 out : List ℕ) : Type 0 where
  pub emitter : Emitter
  pub before : List ℕ
  pub done : Done n s out0 emitter before
  pub is : out ≡ headed emitter before

-- all but the sizes was written to a stage with places for `slots` operations
pub record Staged (slots : ℕ) (s : Seq) (e : Emitter) (stage : List ℕ) : Type 0 where
  pub before : List ℕ
  pub done : Done slots s before e stage
  pub as_long : length stage ≡ length before

-- the kinds and counts were, and as much of the text as had a place
pub record Marked (slots : ℕ) (s : Seq) (stage : List ℕ) : Type 0 where
  pub before : List ℕ
  pub as_long : length stage ≡ length before
  pub wrote : length s ≤ slots → stage ≡ laid slots (reverse s) (texts_of (reverse s)) before

-- ---- the answer of a call that would write a record of these sizes: 9, then 10

abbrev pub within_limits : Emitter → Bool
within_limits e = nat_le e.ops max_ops && (nat_le e.text max_size && (nat_le e.base max_size && nat_le e.target max_size))

abbrev pub size_in : Emitter → ℕ
size_in e = start_of_text e.ops + e.text

unfoldable pub limits_before_room : Emitter → ℕ → Result ℕ Refusal
limits_before_room e room = cond (within_limits e) (cond (nat_le (size_in e) room) (Ok (size_in e)) (Err Room)) (Err Limit)

-- ---- what the functions below `transform` promise each other

unfoldable pub limits_then_room_both : Emitter → Emitter → ℕ → ℕ → Result (ℕ × ℕ) Refusal
limits_then_room_both e f x y =
    cond (within_limits e && within_limits f) (cond (nat_le (size_in e) x && nat_le (size_in f) y) (Ok (size_in e, size_in f)) (Err Room)) (Err Limit)
