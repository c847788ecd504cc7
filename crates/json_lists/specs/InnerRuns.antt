-- What the functions that read and write lists promise each other. Only contracts of inner functions cite this.
use Rattle.std.specs.Prelude.{ℕ, ◌+◌, ◌≤◌, ◌<◌, ◌-◌, min, ◌≡◌, Bool, true, false, cond, ◌&&◌, ◌||◌, List, [], ◌∷◌, T, ltb, eqb, length, take, drop, get_or}
use Rattle.buffers.specs.Lists.{all_of}
use Rattle.characters.specs.Form.{is_well_formed}
use Rattle.characters.specs.Chars.{number_of_chars}
use Rattle.record.specs.Layout.{max_size}
use Rattle.json_lists.specs.Form.{Item, number, string, Place, is_end, reached, items}
use Rattle.json_lists.specs.Grammar.{is_raw}

-- ---- runs of bytes

-- the bytes from `at` to `to` pass a test, and the one behind them doesn't
pub record Run (test : ℕ → Bool) (t : List ℕ) (at to : ℕ) : Type 0 where
  pub above : at ≤ to
  pub below : to ≤ length t
  pub all : T (all_of test (take (to - at) (drop at t)))
  pub stops : to < length t → test (get_or t to 0) ≡ false

-- from `at` to `to` stand so many whole characters that need no escape, and none stands behind them
pub record Plain (t : List ℕ) (at to chars : ℕ) : Type 0 where
  pub above : at ≤ to
  pub below : to ≤ length t
  pub raw : T (all_of is_raw (take (to - at) (drop at t)))
  pub well : T (is_well_formed (take (to - at) (drop at t)))
  pub num : chars ≡ number_of_chars (take (to - at) (drop at t))
  pub few : chars ≤ to - at
  pub stops : to < length t → is_raw (get_or t to 0) ≡ true → is_well_formed (drop to t) ≡ false

-- how many bytes a scalar value has
unfoldable pub width : ℕ → ℕ
width v = cond (ltb v 0x80) 1 (cond (ltb v 0x800) 2 (cond (ltb v 0x10000) 3 4))

-- how many bytes a text grows by where it is written
unfoldable pub extra_bytes : List ℕ → ℕ
extra_bytes [] = 0
extra_bytes (b ∷ bs) = cond (ltb b 0x20) 5 (cond (eqb b 0x22 || eqb b 0x5C) 1 0) + extra_bytes bs

-- the first number over the limit of a record's sizes
abbrev pub over_limit : ℕ
over_limit = max_size + 1

-- an item whose number is held as that where it is more: the record is refused all the same
abbrev pub capped : Item → Item
capped (number s n) = number s (min n over_limit)
capped (string t) = string t

-- ---- how a list is read on

-- bytes bs at the place p are as good as bytes cs at q: no item ends between them
pub record Onward (p : Place) (bs : List ℕ) (q : Place) (cs : List ℕ) : Type 0 where
  pub to : reached p bs ≡ reached q cs
  pub has : items p bs ≡ items q cs
  pub well : is_well_formed bs ≡ is_well_formed cs

-- the item x ends between them
pub record Passes (x : Item) (p : Place) (bs : List ℕ) (q : Place) (cs : List ℕ) : Type 0 where
  pub to : reached p bs ≡ reached q cs
  pub has : items p bs ≡ x ∷ items q cs
  pub well : is_well_formed bs ≡ is_well_formed cs

-- no list of the form goes on so
abbrev pub Fails : Place → List ℕ → Type 0
Fails p bs = (is_well_formed bs && is_end (reached p bs)) ≡ false
