-- A call's answer as one number of 64 bits, for callers in C.
use Rattle.std.specs.Prelude.{ℕ, ◌+◌, ◌*◌, ◌^◌, ◌-◌, ◌/◌, ◌%◌, zero, suc, [], ◌∷◌, cond, Bool, true, false, ◌&&◌, leb}
use Rattle.answers.specs.Answer.{Answer, success, refused}
use Rattle.record.specs.Layout.{max_record}
use Rattle.session_log.specs.Log.{max_revisions}

-- One result stands as it is. Of two, the first is the low 32 bits and the second the high 32. Bit 63 is set where the call is
-- refused, and the low byte is then the refusal's number.
abbrev pub packed : Answer → ℕ
packed (success []) = 0
packed (success (m ∷ [])) = m
packed (success (m ∷ n ∷ ns)) = m + 2 ^ 32 * n
packed (refused n) = 2 ^ 63 + n

-- How a caller reads it: the answer of a call that gives one result, and of one that gives two.
unfoldable pub read_one : ℕ → Answer
read_one r = cond (leb (2 ^ 63) r) (refused (r - 2 ^ 63)) (success (r ∷ []))

unfoldable pub read_two : ℕ → Answer
read_two r = cond (leb (2 ^ 63) r) (refused (r - 2 ^ 63)) (success (r % 2 ^ 32 ∷ r / 2 ^ 32 ∷ []))

-- two results, each at most the size of as many of the longest records as a log holds; or a refusal
abbrev pub most : ℕ
most = max_revisions * max_record

abbrev pub small : Answer → Bool
small (success []) = false
small (success (m ∷ [])) = false
small (success (m ∷ n ∷ [])) = leb m most && leb n most
small (success (m ∷ n ∷ k ∷ ns)) = false
small (refused n) = true

-- what a step gives, two numbers or none: the kind and 256 times the count; 0 at the end
abbrev pub step_number : Answer → ℕ
step_number (success []) = 0
step_number (success (kind ∷ [])) = kind
step_number (success (kind ∷ count ∷ ns)) = kind + 256 * count
step_number (refused n) = 0

-- a part of a record, as two results: where it begins and how many bytes it has; 0 where it has none
abbrev pub part : ℕ → ℕ → ℕ
part from zero = 0
part from (suc n) = from + 2 ^ 32 * suc n
