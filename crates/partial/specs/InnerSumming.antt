-- What the functions below `summary` promise each other. No entry's contract cites this.
use Rattle.std.specs.Prelude.{◌≡◌, ℕ, ◌≤◌, true, false, T, List, length, take, Result, Ok, Err}
use Rattle.edits.specs.Built.{Built}
use Rattle.edits.specs.Sequence.{Seq}
use Rattle.answers.specs.Answer.{number}
use Rattle.record.specs.Record.{encode, fits}
use Rattle.session_log.specs.Log.{start_of, revisions}
use Rattle.session.specs.Rows.{retain_whole, compose_all, composes_within}
use Rattle.answers.specs.declared.Refusal.{Refusal}

-- the first k bytes are the record of s, which is built and keeps the limits
pub record Holds (s : Seq) (k : ℕ) (b : List ℕ) : Type 0 where
  pub is_built : Built s
  pub in_limits : T (fits s)
  pub size : k ≡ length (encode s)
  pub room : k ≤ length b
  pub is : take k b ≡ encode s

-- a result in the buffer, or 9 where it passes a limit
abbrev pub MakesTo : Seq → Result ℕ Refusal → List ℕ → Type 0
MakesTo s (Ok k) b = Holds s k b
MakesTo s (Err x) b = (number x ≡ 9) × (fits s ≡ false)

pub record Makes (s : Seq) (w : Result ℕ Refusal) (b : List ℕ) : Type 0 where
  pub makes : MakesTo s w b

-- the same of all revisions
abbrev pub SumsTo : List ℕ → Result ℕ Refusal → List ℕ → Type 0
SumsTo l (Ok k) b = (composes_within (retain_whole (start_of l)) (revisions l) ≡ true) × Holds (compose_all (retain_whole (start_of l)) (revisions l)) k b
SumsTo l (Err x) b = (number x ≡ 9) × (composes_within (retain_whole (start_of l)) (revisions l) ≡ false)

pub record Sums (l : List ℕ) (w : Result ℕ Refusal) (b : List ℕ) : Type 0 where
  pub sums : SumsTo l w b
