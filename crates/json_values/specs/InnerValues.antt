-- What is found of values. Only contracts of inner functions cite this.
use Rattle.std.specs.Prelude.{◌≡◌, ℕ, ◌+◌, ◌<◌, ◌≤◌, min, true, false, T, List, [], length, drop, slice_index, Option, Some, None}
use Rattle.characters.specs.Form.{is_well_formed}
use Rattle.characters.specs.Chars.{number_of_chars}
use Rattle.json_lists.specs.Form.{Sign, plus, minus, Item, number, string, is_white_space, is_digit, is_digit1_9, value_of_digit, Place, in_number, after_value, outside, next, ends, is_end}
use Rattle.json_lists.specs.InnerRuns.{over_limit, Onward, Passes, Fails}
use Rattle.json_values.specs.declared.inner.Digits.{Digits}
use Rattle.json_values.specs.declared.inner.Value.{Value}
use Rattle.json_values.specs.declared.inner.Value.TheVariants.{Retain, Delete, Insert}
use Rattle.json_values.specs.declared.inner.Found.{Found}

-- the number whose first digit stands at `at`: all of its digits are passed, and it is held as `over_limit` where it is more
pub record DigitsAt (t : List ℕ) (at : ℕ) (r : Digits) : Type 0 where
  pub value : ℕ
  pub capped : r.value ≡ min value over_limit
  pub above : at < r.to
  pub below : r.to ≤ length t
  pub onward : (s : Sign) → Onward (in_number s (value_of_digit (slice_index t at))) (drop (at + 1) t) (in_number s value) (drop r.to t)
  pub stops : r.to < length t → is_digit (slice_index t r.to) ≡ false

-- a number of this sign stands at `at`, at the place p
pub record NumberAt (p : Place) (s : Sign) (t : List ℕ) (at n to : ℕ) : Type 0 where
  pub value : ℕ
  pub capped : n ≡ min value over_limit
  pub above : at < to
  pub below : to ≤ length t
  pub passes : Passes (number s value) p (drop at t) after_value (drop to t)

-- a place at which a first digit begins a number of the sign s, and any other byte b leads outside
pub record Begins (p : Place) (s : Sign) (b : ℕ) : Type 0 where
  pub digit : is_digit1_9 b ≡ true → (next p b ≡ in_number s (value_of_digit b)) × (ends p b ≡ [])
  pub other : is_digit1_9 b ≡ false → next p b ≡ outside

-- a number stands at `at`, at the place p, or none does
abbrev pub NumberOrNone : Place → Sign → List ℕ → ℕ → Option Digits → Type 0
NumberOrNone p s t at None = Fails p (drop at t)
NumberOrNone p s t at (Some x) = NumberAt p s t at x.value x.to

-- so at every place at which one may begin
pub record WholeNumber (t : List ℕ) (at : ℕ) (r : Option Digits) : Type 0 where
  pub read : (p : Place) (s : Sign) → is_end p ≡ false → (at < length t → Begins p s (slice_index t at)) → NumberOrNone p s t at r

-- what a scanned value says of an item: a number over the limit is held as the first one over it
pub record IsNumber (s : Sign) (n : ℕ) (x : Item) : Type 0 where
  pub value : ℕ
  pub capped : n ≡ min value over_limit
  pub is : x ≡ number s value

pub record IsString (num_bytes num_chars : ℕ) (x : Item) : Type 0 where
  pub text : List ℕ
  pub well : T (is_well_formed text)
  pub size : num_bytes ≡ length text
  pub num : num_chars ≡ number_of_chars text
  pub is : x ≡ string text

abbrev pub Means : Value → Item → Type 0
Means (Retain n) x = IsNumber plus n x
Means (Delete n) x = IsNumber minus n x
Means (Insert bytes chars) x = IsString bytes chars x

-- a value stands at `at`, at the place p, and ends before `to`
pub record ValueAt (p : Place) (t : List ℕ) (at : ℕ) (v : Value) (to : ℕ) : Type 0 where
  pub item : Item
  pub means : Means v item
  pub above : at < to
  pub below : to ≤ length t
  pub passes : Passes item p (drop at t) after_value (drop to t)

-- or none does
abbrev pub ValueFrom : Place → List ℕ → ℕ → Option Found → Type 0
ValueFrom p t at None = Fails p (drop at t)
ValueFrom p t at (Some f) = ValueAt p t at f.value f.to

-- no white space stands at `at`
pub record NoSpace (t : List ℕ) (at : ℕ) : Type 0 where
  pub none : at < length t → is_white_space (slice_index t at) ≡ false

-- a byte that begins neither white space nor a string nor a negative number
pub record OtherByte (b : ℕ) : Type 0 where
  pub no_space : is_white_space b ≡ false
  pub no_mark : b ≡ 0x22 → ⊥
  pub no_minus : b ≡ 0x2D → ⊥
