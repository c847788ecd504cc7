-- "A step gives the kind and count found there and moves on by one; past the last record, and wherever the record is
-- refused, it gives the end."
use Rattle.std.specs.Prelude.{ℕ, zero, suc, ◌+◌, cond, List, [], ◌∷◌, nat_lt, Option, Some, None}
use Rattle.answers.specs.Answer.{Answer, success, refused, unless_refused}
use Rattle.record.specs.Kinds.{number_of}
use Rattle.record.specs.Layout.{op_count_of, kind_at, count_at}
use Rattle.record.specs.Record.{record_fault}
use Rattle.walker.specs.declared.Op.{Op}

-- the end: no numbers
abbrev pub end : Answer
end = success []

-- what the code finds, in the paper's numbers
abbrev pub found_of : Option Op → Answer
found_of (Some op) = success (number_of op.kind ∷ op.count ∷ [])
found_of None = end

-- what a step at a position gives
unfoldable pub step_call : List ℕ → ℕ → Answer
unfolding record_fault
step_call r at = unless_refused (record_fault r) (λ n. end) (cond (nat_lt at (op_count_of r)) (success (kind_at r at ∷ count_at r at ∷ [])) end)

-- the position behind it; the end stays where it is
abbrev pub behind : Answer → ℕ → ℕ
behind (success []) at = at
behind (success (kind ∷ ns)) at = at + 1
behind (refused n) at = at

abbrev pub next_at : List ℕ → ℕ → ℕ
next_at r at = behind (step_call r at) at

-- where a new walker stands after k steps
abbrev pub position_after : List ℕ → ℕ → ℕ
position_after r zero = 0
position_after r (suc k) = next_at r (position_after r k)
