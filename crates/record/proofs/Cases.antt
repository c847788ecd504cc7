-- The kinds of operations, and their numbers.
use Rattle.std.specs.Prelude.{◌≡◌, ◌≢◌}
use mathlib.Core.Path.{refl}
use Rattle.record.specs.Kinds.{number_of}
use Rattle.record.specs.declared.inner.Kind.{Kind}
use Rattle.record.specs.declared.inner.Kind.TheVariants.{Retain, Insert, Delete}

-- the number of a kind
pub number_retain : (k : Kind) → k ≡ Retain → number_of k ≡ 1
number_retain k e = rw e refl

pub number_insert : (k : Kind) → k ≡ Insert → number_of k ≡ 2
number_insert k e = rw e refl

pub number_delete : (k : Kind) → k ≡ Delete → number_of k ≡ 3
number_delete k e = rw e refl

pub no_retain : (k : Kind) → k ≢ Retain → number_of k ≢ 1
no_retain Retain n e = n refl
no_retain Insert n e = cc
no_retain Delete n e = cc

pub no_insert : (k : Kind) → k ≢ Insert → number_of k ≢ 2
no_insert Retain n e = cc
no_insert Insert n e = n refl
no_insert Delete n e = cc

pub ruleset Numbers = (number_retain, number_insert, number_delete, no_retain, no_insert)

-- kinds with one number are the same
pub same_kind : (a b : Kind) → number_of a ≡ number_of b → a ≡ b
same_kind Retain Retain e = refl
same_kind Retain Insert e = cc
same_kind Retain Delete e = cc
same_kind Insert Retain e = cc
same_kind Insert Insert e = refl
same_kind Insert Delete e = cc
same_kind Delete Retain e = cc
same_kind Delete Insert e = cc
same_kind Delete Delete e = refl
