-- What the steps of a scan promise each other. No entry's contract cites this.
use Rattle.std.specs.Prelude.{◌≡◌, ℕ, suc, ◌+◌, ◌-◌, ◌<◌, ◌≤◌, false, List, length, drop, Option, Some, None}
use Rattle.record.specs.Layout.{size_of, base_of, target_of}
use Rattle.record.specs.Record.{record_fault}
use Rattle.session_log.specs.declared.inner.Spot.{Spot}
use Rattle.session_log.specs.Log.{readable_from, count_of, readable, place_of, length_at}

-- from p past the record that stands there
pub record Past (l : List ℕ) (p q : Spot) : Type 0 where
  pub faultless : record_fault (drop p.at l) ≡ 0
  pub base : base_of (drop p.at l) ≡ p.len
  pub place : q.at ≡ p.at + size_of (drop p.at l)
  pub len : q.len ≡ target_of (drop p.at l)
  pub inside : q.at ≤ length l

pub data Steps (l : List ℕ) (p : Spot) : Option Spot → Type 0 where
  stop : ((n : ℕ) → readable_from (suc n) p.len (drop p.at l) ≡ false) → Steps l p None
  on : {q : Spot} → Past l p q → Steps l p (Some q)

-- what holds before record k: whether the log can be read is told by the records from here on, and revision r is remembered
pub record Passing (l : List ℕ) (r k : ℕ) (here mark : Spot) : Type 0 where
  pub place : here.at ≡ place_of k l
  pub len : here.len ≡ length_at k l
  pub inside : here.at ≤ length l
  pub left : readable l ≡ readable_from (count_of l - k) here.len (drop here.at l)
  pub mark_at : r < k → mark.at ≡ place_of r l
  pub mark_len : r < k → mark.len ≡ length_at r l
