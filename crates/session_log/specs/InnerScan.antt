-- What `inner` of the log promises. No entry's contract cites this.
use Rattle.std.specs.Prelude.{◌≡◌, ℕ, ◌≤◌, false, T, List, length, Option, Some, None}
use Rattle.record.specs.Layout.{max_size}
use Rattle.session_log.specs.Log.{count_of, start_of, readable, size_of_log, place_of, length_at, max_revisions}
use Rattle.session_log.specs.declared.inner.Scan.{Scan}

-- a log that can be read: what it states, where it ends, and where revision r does
pub record Found (l : List ℕ) (r : ℕ) (s : Scan) : Type 0 where
  pub reads : T (readable l)
  pub count : s.count ≡ count_of l
  pub few : s.count ≤ max_revisions
  pub start : s.start ≡ start_of l
  pub small : s.start ≤ max_size
  pub size : s.size ≡ size_of_log l
  pub whole : s.size ≤ length l
  pub place : r ≤ count_of l → s.at ≡ place_of r l
  pub len : r ≤ count_of l → s.len ≡ length_at r l

abbrev pub ScansTo : List ℕ → ℕ → Option Scan → Type 0
ScansTo l r None = readable l ≡ false
ScansTo l r (Some s) = Found l r s

pub record Scans (l : List ℕ) (r : ℕ) (x : Option Scan) : Type 0 where
  pub scans : ScansTo l r x
