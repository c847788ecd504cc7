-- A sequence of operations on text.
use Rattle.std.specs.Prelude.{List}
use Rattle.characters.specs.Text.{Char}
use Rattle.edits.specs.Op.{Op}

abbrev pub Seq : Type 0
Seq = List (Op Char)
