-- What the steps of emitting an inverse promise each other. No entry's contract cites this.
use Rattle.std.specs.Prelude.{ℕ, cond, List, take, ◌==◌}
use Rattle.characters.specs.Text.{Char}
use Rattle.edits.specs.Op.{Op, retain, insert, delete}
use Rattle.record.specs.declared.inner.Front.{Front}
use Rattle.record.specs.Layout.{insert_kind, retain_kind}

-- how many characters the front's operation takes from the text, and what undoes it where the text goes on with `t`
abbrev pub taken : Front → ℕ
taken f = cond (f.kind == insert_kind) 0 f.left

abbrev pub undone : Front → List Char → Op Char
undone f t = cond (f.kind == retain_kind) (retain f.left) (cond (f.kind == insert_kind) (delete f.left) (insert (take f.left t)))
