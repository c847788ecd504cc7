-- What the passes over the kinds and the counts promise each other. Only inner contracts cite this.
use Rattle.std.specs.Prelude.{◌≡◌, ℕ, zero, suc, ◌+◌, ◌-◌, ◌*◌, ◌≤◌, Bool, true, false, cond, not, List, length, ◌==◌, nat_eq}
use Rattle.record.specs.Record.{Entry, sound_entry, entry_at}
use Rattle.record.specs.Layout.{delete_kind, insert_kind, kind_at, max_ops, op_count_of, retain_kind, start_of_text}
use Rattle.entries.specs.declared.inner.Tally.{Tally}

abbrev pub entry : ℕ → ℕ → Entry
entry k n = record { kind = k; count = n }

-- n is the record's number of operations, it keeps the limit, and the kinds and the counts of all of them are there
pub record HasEntries (r : List ℕ) (n : ℕ) : Type 0 where
  pub count_is : n ≡ op_count_of r
  pub few : n ≤ max_ops
  pub there : start_of_text n ≤ length r

-- ---- the sums of the entries

-- f at i, and at the places behind it: n in all
abbrev pub sum_from : (ℕ → ℕ) → ℕ → ℕ → ℕ
sum_from f i zero = 0
sum_from f i (suc n) = f i + sum_from f (suc i) n

abbrev pub picked : Bool → ℕ → ℕ
picked b n = cond b n 0

-- what one entry adds
abbrev pub invalid : Entry → ℕ
invalid e = picked (not (sound_entry e)) 1

abbrev pub of_kind : ℕ → Entry → ℕ
of_kind k e = picked (e.kind == k) e.count

abbrev pub sum_of : (Entry → ℕ) → List ℕ → ℕ → ℕ
sum_of f r = sum_from (λ k. f (entry_at r k)) 0

-- the neighbours' rule on kinds as they are written
unfoldable pub can_follow : ℕ → ℕ → Bool
can_follow last kind = cond (last == kind) false (cond (last == delete_kind) (not (kind == insert_kind)) true)

abbrev pub clash_at : List ℕ → ℕ → ℕ
clash_at r k = picked (not (can_follow (kind_at r k) (kind_at r (suc k)))) 1

unfoldable pub tallied : Tally → Entry → Bool → Tally
tallied t e clashes =
    record {
      invalid = t.invalid + invalid e;
      inserts = t.inserts + of_kind insert_kind e;
      all = t.all + e.count;
      kept = t.kept + of_kind retain_kind e;
      clashes = t.clashes + picked clashes 1;
    }

-- the first n entries; their neighbours, where none is invalid
pub record Tallied (r : List ℕ) (n : ℕ) (t : Tally) : Type 0 where
  pub invalids : nat_eq t.invalid 0 ≡ (sum_of invalid r n == 0)
  pub inserted : t.inserts ≡ sum_of (of_kind insert_kind) r n
  pub counts : t.all ≡ sum_of (λ e. e.count) r n
  pub retained : t.kept ≡ sum_of (of_kind retain_kind) r n
  pub neighbours : t.invalid ≡ 0 → t.clashes ≡ sum_from (clash_at r) 0 (n - 1)
  pub few : t.invalid ≤ 65537 * n
  pub less : t.inserts ≤ t.all
  pub fewer : t.kept ≤ t.all
  pub small : t.all ≤ 65536 * n
  pub close : t.clashes ≤ n
