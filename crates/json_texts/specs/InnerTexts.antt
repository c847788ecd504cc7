-- The texts of a list's strings, and how they are copied. Only contracts of inner functions cite this.
use Rattle.std.specs.Prelude.{◌≡◌, ℕ, ◌+◌, ◌≤◌, true, T, List, [], ◌∷◌, ◌++◌, length, drop}
use Rattle.buffers.specs.InnerOver.{over}
use Rattle.characters.specs.Form.{is_well_formed}
use Rattle.json_lists.specs.Form.{Item, number, string, Place, is_end, reached, items}

-- the texts of all strings, one behind another
abbrev pub texts : List Item → List ℕ
texts [] = []
texts (number s n ∷ l) = texts l
texts (string t ∷ l) = t ++ texts l

-- the texts that are still to be copied at a position of the list, which is the place p in the grammar
unfoldable pub ahead : Place → List ℕ → ℕ → List ℕ
unfolding items
ahead p list at = texts (items p (drop at list))

-- a list of the form goes on at `at`, and the buffer has room behind `to` for the texts that follow there
pub record Ready (p : Place) (list : List ℕ) (at : ℕ) (out : List ℕ) (to : ℕ) : Type 0 where
  pub well : T (is_well_formed list)
  pub ends : is_end (reached p (drop at list)) ≡ true
  pub there : at ≤ length list
  pub room : to + length (ahead p list at) ≤ length out

-- the list is read from `at` to `from`, and the text that stands there is copied to the buffer, from `to` to `end`
pub record Moved (p q : Place) (list : List ℕ) (at : ℕ) (out : List ℕ) (to from end : ℕ) (out' : List ℕ) : Type 0 where
  pub text : List ℕ
  pub splits : ahead p list at ≡ text ++ ahead q list from
  pub laid : out' ≡ over to text out
  pub behind : end ≡ to + length text
  pub ends : is_end (reached q (drop from list)) ≡ true
  pub above : at ≤ from
  pub below : from ≤ length list
  pub fits : end ≤ length out
  pub same : length out' ≡ length out
