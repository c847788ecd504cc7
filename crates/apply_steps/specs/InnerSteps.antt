-- What the steps of playing promise each other. No entry's contract cites this.
use Rattle.std.specs.Prelude.{◌≡◌, ℕ, ◌+◌, ◌-◌, ◌≤◌, T, List, length, take, drop}
use Rattle.buffers.specs.InnerOver.{over}
use Rattle.characters.specs.Text.{chars, bytes}
use Rattle.characters.specs.Form.{is_well_formed}
use Rattle.characters.specs.Chars.{number_of_chars}
use Rattle.edits.specs.Apply.{apply}
use Rattle.edits.specs.Op.{base}
use Rattle.record.specs.Record.{ops}
use Rattle.record.specs.InnerFront.{ops_left, Place}
use Rattle.apply_steps.specs.declared.inner.Progress.{Progress}

-- the text after the edit
unfoldable pub played : List ℕ → List ℕ → List ℕ
unfolding ops chars bytes
played r t = bytes (apply (ops r) (chars t))

-- gone through a record and a text up to operation k and `at`: the next insert's text stands at `from`, and the text has left just
-- the characters that the operations ahead take
pub record Along (r t : List ℕ) (k from at : ℕ) : Type 0 where
  pub place : Place r k from
  pub inside : at ≤ length t
  pub well : T (is_well_formed (drop at t))
  pub takes_all : length (chars (drop at t)) ≡ base (ops_left r k from)

-- of the text after the edit `len` bytes were given, and the operations from k on make the others of what lies ahead in the text
pub record Stage (r t : List ℕ) (s : Progress) : Type 0 where
  pub along : Along r t s.k s.from s.at
  pub small : length (played r t) ≤ 131072
  pub given : s.len ≤ length (played r t)
  pub left : drop s.len (played r t) ≡ bytes (apply (ops_left r s.k s.from) (chars (drop s.at t)))

-- the last of the operations that are left takes all that is left of the text
pub record TakesRest (t : List ℕ) (at count left : ℕ) : Type 0 where
  pub rest : left ≡ 1 → count ≡ number_of_chars (drop at t)

-- one step from `s` to `u`: the bytes between are laid over the output
pub record Steps (r t : List ℕ) (s : Progress) (o : List ℕ) (u : Progress) (o' : List ℕ) : Type 0 where
  pub stage : Stage r t u
  pub next : u.k ≡ s.k + 1
  pub forth : s.len ≤ u.len
  pub wrote : o' ≡ over s.len (take (u.len - s.len) (drop s.len (played r t))) o
