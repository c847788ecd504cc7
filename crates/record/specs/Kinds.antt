-- The kinds of operations.
use Rattle.std.specs.Prelude.{ℕ}
use Rattle.record.specs.declared.inner.Kind.{Kind}
use Rattle.record.specs.declared.inner.Kind.TheVariants.{Retain, Insert, Delete}
use Rattle.record.specs.Layout.{retain_kind, insert_kind, delete_kind}

-- the number that a kind has in a record
abbrev pub number_of : Kind → ℕ
number_of Retain = retain_kind
number_of Insert = insert_kind
number_of Delete = delete_kind
