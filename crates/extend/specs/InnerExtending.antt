-- What the functions below the builders promise each other. No entry's contract cites this.
use Rattle.std.specs.Prelude.{◌≡◌, ℕ, zero, suc, ◌+◌, ◌^◌, ◌≤◌, cond, List, ◌++◌, reverse, length, ◌==◌}
use Rattle.buffers.specs.InnerOver.{over}
use Rattle.characters.specs.Text.{Char, bytes}
use Rattle.edits.specs.Op.{base, target, Op}
use Rattle.edits.specs.Sequence.{Seq}
use Rattle.edits.specs.Build.{add, extend}
use Rattle.record.specs.Layout.{kind_at, count_at, op_count_of, text_bytes_of, start_of_text}
use Rattle.record.specs.Record.{ops}
use Rattle.emitter.specs.declared.inner.Emitter.{Emitter}
use Rattle.places.specs.InnerOps.{relocated}
use Rattle.emitter.specs.InnerEmit.{flushed_ops, Under, texts_of, laid, group}

-- the count of the operation before operation k, where it is of this kind; else 0
unfoldable pub last_count : List ℕ → ℕ → ℕ → ℕ
last_count r zero kind = 0
last_count r (suc k) kind = cond (kind_at r k == kind) (count_at r k) 0

-- the numbers once the pending group is written
abbrev pub closed_of : Emitter → Emitter
closed_of f = record { ins = 0; del = 0; ret = 0; ops = flushed_ops f; text = f.text; base = f.base; target = f.target }

-- the emitter stands for the record's operations and the operation p, once the text u that p inserts and all operations before the
-- pending group are in their places
pub record Grown (r : List ℕ) (p : Op Char) (u : List ℕ) (f : Emitter) : Type 0 where
  pub few : f.ops ≤ op_count_of r
  pub under : Under (2 ^ 38) f
  pub done : Seq
  pub held : List Char
  pub is : add (reverse (ops r)) p ≡ group held f.del f.ret done
  pub ins : length (bytes held) ≡ f.ins
  pub count_is : length done ≡ f.ops
  pub text_is : f.text ≡ text_bytes_of r + length u
  pub texts : f.text ≡ length (texts_of done ++ bytes held)
  pub base_is : f.base ≡ base (extend (ops r) p)
  pub target_is : f.target ≡ target (extend (ops r) p)
  pub wrote : (n : ℕ) (o : List ℕ) → f.ops ≤ n
      → over (start_of_text n + text_bytes_of r) u (relocated (op_count_of r) n f.ops (text_bytes_of r) r o) ≡ laid n done (texts_of done ++ bytes held) o
