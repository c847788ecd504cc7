-- What the functions of `append`, `late_edits` and `accept` promise each other. No entry's contract cites this.
use Rattle.std.specs.Prelude.{◌≡◌, ℕ, ◌+◌, ◌<◌, ◌≤◌, Bool, ◌&&◌, List, length, take, drop, nat_le, Result, Ok, Err}
use Rattle.answers.specs.Answer.{pair_of}
use Rattle.record.specs.Layout.{base_of}
use Rattle.record.specs.Record.{record_fault, ops}
use Rattle.session_log.specs.declared.inner.Scan.{Scan}
use Rattle.session_log.specs.Log.{count_of, length_at, max_revisions, revisions, encode_all}
use Rattle.session_log.specs.InnerScan.{Found}
use Rattle.session.specs.Rows.{rebase}
use Rattle.session.specs.Session.{accept_call}
use Rattle.counterparts.specs.InnerRunning.{Rebased}
use Rattle.counterparts.specs.declared.inner.Stop.{Stop}
use Rattle.counterparts.specs.declared.inner.Stop.TheVariants as stop
use Rattle.answers.specs.declared.Refusal.{Refusal}

-- nothing up to 8 refuses the edit, and the log may have a revision more
pub record Admitted (edit : List ℕ) (r : ℕ) (log : List ℕ) (s : Scan) : Type 0 where
  pub fault : record_fault edit ≡ 0
  pub found : Found log r s
  pub rev : r ≤ count_of log
  pub meets : base_of edit ≡ length_at r log
  pub few : count_of log < max_revisions

-- the log has room for `size` bytes more, and the output for so many
pub record Rooms (log : List ℕ) (used size : ℕ) (out : List ℕ) (bytes : ℕ) (v : Bool) : Type 0 where
  pub told : v ≡ (nat_le (used + size) (length log) && nat_le bytes (length out))

pub record MovedPast (edit : List ℕ) (r : ℕ) (log : List ℕ) (bytes : ℕ) (cur : List ℕ) : Type 0 where
  pub moved : Rebased (ops edit) (drop r (revisions log)) bytes cur

-- the counterparts stand at the front of a buffer, if it has room for them
pub record Stored (edit : List ℕ) (r : ℕ) (log : List ℕ) (bytes : ℕ) (parts : List ℕ) : Type 0 where
  pub stored : bytes ≤ length parts → take bytes parts ≡ encode_all (rebase (ops edit) (drop r (revisions log))).counterparts

pub record Accepts (edit : List ℕ) (r : ℕ) (log out : List ℕ) (x : Result (ℕ × ℕ) Refusal) (log' out' : List ℕ) : Type 0 where
  pub answer : pair_of x ≡ (accept_call edit r log out).answer
  pub log_is : log' ≡ (accept_call edit r log out).out_a
  pub out_is : out' ≡ (accept_call edit r log out).out_b

-- short buffers may not do: then nothing was written
abbrev pub TriesTo : List ℕ → ℕ → List ℕ → List ℕ → Result (ℕ × ℕ) Stop → List ℕ → List ℕ → Type 0
TriesTo edit r log out (Ok (k, l)) log' out' = Accepts edit r log out (Ok (k, l)) log' out'
TriesTo edit r log out (Err (stop.Refused x)) log' out' = Accepts edit r log out (Err x) log' out'
TriesTo edit r log out (Err stop.Short) log' out' = (log' ≡ log) × (out' ≡ out)

pub record Tries (edit : List ℕ) (r : ℕ) (log out : List ℕ) (x : Result (ℕ × ℕ) Stop) (log' out' : List ℕ) : Type 0 where
  pub tries : TriesTo edit r log out x log' out'
