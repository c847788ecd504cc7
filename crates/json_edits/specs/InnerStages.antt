-- A list's record, put together from a stage. Only contracts of inner functions cite this.
use Rattle.std.specs.Prelude.{◌≡◌, ℕ, ◌≤◌, min, T, List, length}
use Rattle.record.specs.Layout.{start_of_text, max_ops}
use Rattle.emitter.specs.declared.inner.Emitter.{Emitter}
use Rattle.emitter.specs.InnerEmit.{Done, size_in}
use Rattle.json_lists.specs.Form.{at_start, items, in_form}
use Rattle.json_lists.specs.Calls.{ops_of}

-- a stage with places for so many operations has one for each operation of a list that passes no limit
pub record Enough (slots : ℕ) (t : List ℕ) : Type 0 where
  pub places : min (length t) max_ops ≤ slots

-- a list of the form was read into a stage, and its record has room in the output
pub record Placeable (t stage : List ℕ) (slots : ℕ) (e : Emitter) (out : List ℕ) : Type 0 where
  pub form : T (in_form t)
  pub before : List ℕ
  pub done : Done slots (ops_of (items at_start t)) before e stage
  pub as_long : length stage ≡ length before
  pub long : length stage ≡ start_of_text slots
  pub few : e.ops ≤ slots
  pub most : slots ≤ max_ops
  pub room : size_in e ≤ length out
