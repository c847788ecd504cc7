-- Records that stand end to end.
use Rattle.std.specs.Prelude.{◌≡◌, ℕ, zero, suc, eqb, List, drop}
use mathlib.Core.Path.{refl}
use lib.Dec.{eqb→eq}
use Rattle.buffers.proofs.Tests.{both}
use Rattle.record.specs.Layout.{base_of, size_of, target_of}
use Rattle.record.specs.Record.{record_fault}
use Rattle.session_log.specs.Log.{readable_from}
use Rattle.counterparts.specs.InnerRunning.{RecordsFollow}

pub lie_first : (n len : ℕ) (l : List ℕ) → (n ≡ 0 → ⊥) → RecordsFollow n len l → (record_fault l ≡ 0) × (base_of l ≡ len)
unfolding readable_from
lie_first zero len l h r = absurd (h refl)
lie_first (suc n) len l h r =
    let (z, m) = (both (eqb (record_fault l) 0) _).0 r.reads in
    (eqb→eq (record_fault l) 0 z, eqb→eq (base_of l) len ((both (eqb (base_of l) len) _).0 m).0)

pub lie_rest : (n len : ℕ) (l : List ℕ) → RecordsFollow (suc n) len l → RecordsFollow n (target_of l) (drop (size_of l) l)
unfolding readable_from
lie_rest n len l r = record { reads = ((both (eqb (base_of l) len) _).0 ((both (eqb (record_fault l) 0) _).0 r.reads).1).1 }
