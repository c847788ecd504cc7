-- What the passes in 16 and 8 bits promise each other. Only inner contracts cite this.
use Rattle.std.specs.Prelude.{◌≡◌, ℕ, ◌+◌, ◌<◌, ◌≤◌, List, ◌==◌}
use Rattle.record.specs.Record.{Entry}
use Rattle.record.specs.Layout.{delete_kind, insert_kind, retain_kind}
use Rattle.entries.specs.InnerTally.{picked, of_kind, sum_of}
use Rattle.tally.specs.declared.inner.Parts.{Parts}

abbrev pub empty : Entry → ℕ
empty e = picked (e.count == 0) 1

-- the counts of the first n entries, where they are under 65,536 together
pub record Whole (r : List ℕ) (n all : ℕ) : Type 0 where
  pub counts : all < 65536 → all ≡ sum_of (λ e. e.count) r n

unfoldable pub parted_by : Parts → Entry → Parts
parted_by p e =
    record {
      empty = p.empty + empty e;
      inserts = p.inserts + of_kind insert_kind e;
      kept = p.kept + of_kind retain_kind e;
      deleted = p.deleted + of_kind delete_kind e;
    }

pub record Parted (r : List ℕ) (n : ℕ) (p : Parts) : Type 0 where
  pub empties : p.empty ≡ sum_of empty r n
  pub inserted : p.inserts ≡ sum_of (of_kind insert_kind) r n
  pub retained : p.kept ≡ sum_of (of_kind retain_kind) r n
  pub dropped : p.deleted ≡ sum_of (of_kind delete_kind) r n
  pub few : p.empty ≤ n
  pub less : p.inserts + p.kept + p.deleted ≤ sum_of (λ e. e.count) r n
