use mathlib.Core.Path.{refl}
use native.Mathlib.Omega.{arith}
use Rattle.record.proofs.Records.{Bytes}
use Rattle.record.proofs.Faults.{limits, faultless}
use Rattle.extend.proofs.Growing.{last_room, retains_more}
use Rattle.extend.proofs.inner.retain_more.Goals as goal

pub before-requires : goal.before-requires
before-requires c = search last_room

pub overflow_add-result-2 : goal.overflow_add-result-2
overflow_add-result-2 c = let s = c in omega (arith, (limits s.args.rec.now).0 ((faultless s.args.rec.now).0 s.requires.0).in_limits)

pub overflow_add-result-3 : goal.overflow_add-result-3
overflow_add-result-3 c = let s = c in omega (arith, (limits s.args.rec.now).0 ((faultless s.args.rec.now).0 s.requires.0).in_limits)

pub returns : goal.returns
returns c = let s = c in
    let b : Bytes s.args.rec.now = λ i. omega (arith, c.shared_slice_known-1.given i) in
    (search (b, retains_more), refl, refl)
