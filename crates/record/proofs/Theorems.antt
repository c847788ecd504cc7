-- What is promised of records.
use Prim.Native.Nat.{ℕ}
use mathlib.Core.Path.{◌≡◌}
use mathlib.Core.List.{List, ◌++◌}
use lib.ListN.{take}
use Rattle.edits.specs.Op.{base, target}
use Rattle.edits.specs.Sequence.{Seq}
use Rattle.record.specs.Layout.{base_of, target_of, size_of}
use Rattle.record.specs.Record.{encode, ops, record_fault}
use Rattle.record.proofs.Sequences.{Good}
use Rattle.record.proofs.Records.{Bytes, ops_good, encode_ops, ops_base, ops_target, ops_encode, fault_encode}

-- A record that passes is a built sequence within the limits, with the base and target that it states, and its
-- encoding is the record's own bytes.
pub record Passes (r : List ℕ) : Type 0 where
  pub good : Good (ops r)
  pub base_is : base (ops r) ≡ base_of r
  pub target_is : target (ops r) ≡ target_of r
  pub same_bytes : encode (ops r) ≡ take (size_of r) r

pub passes : (r : List ℕ) → Bytes r → record_fault r ≡ 0 → Passes r
passes r b z = record { good = ops_good r z; base_is = ops_base r z; target_is = ops_target r z; same_bytes = encode_ops r z b }

-- Every built sequence within the limits, encoded, with any bytes behind it, passes and is read back as itself.
pub record ReadBack (s : Seq) (more : List ℕ) : Type 0 where
  pub faultless : record_fault (encode s ++ more) ≡ 0
  pub same : ops (encode s ++ more) ≡ s

pub read_back : (s : Seq) (more : List ℕ) → Good s → ReadBack s more
read_back s more g = record { faultless = fault_encode s more g; same = ops_encode s more }
