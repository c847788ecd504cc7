-- A value goes to the emitter.
use Rattle.std.specs.Prelude.{◌≡◌, ℕ, ◌≤◌, List}
use Rattle.edits.specs.Op.{delete}
use Rattle.emitter.specs.declared.inner.Emitter.{Emitter}
use Rattle.json_values.specs.declared.inner.Value.{Value}
use Rattle.json_values.specs.declared.inner.Value.TheVariants.{Retain, Delete, Insert}
use Rattle.json_read.specs.InnerReading.{Feeds, FeedsRetain, FeedsText, Sized, FeedsValue}

module _ (v : Value) (s : Sized v) where
  pub retain_sized : {k : ℕ} → v ≡ Retain k → k ≤ 65536
  retain_sized e = rw e at s

  pub delete_sized : {k : ℕ} → v ≡ Delete k → k ≤ 65536
  delete_sized e = rw e at s

  pub insert_sized : {bytes chars : ℕ} → v ≡ Insert bytes chars → chars ≤ bytes
  insert_sized e = rw e at s

module _ (n : ℕ) (v : Value) (e : Emitter) (o : List ℕ) (e' : Emitter) where
  pub retain_fed : {k : ℕ} → v ≡ Retain k → FeedsRetain k e e' → FeedsValue n v e o e' o
  retain_fed z f = rw z (f.feeds n o)

  module _ (o' : List ℕ) where
    pub delete_fed : {k : ℕ} → v ≡ Delete k → Feeds n (delete k) e o e' o' → FeedsValue n v e o e' o'
    delete_fed z f = rw z f

    pub insert_fed : {bytes chars : ℕ} → v ≡ Insert bytes chars → FeedsText n bytes chars e o e' o' → FeedsValue n v e o e' o'
    insert_fed z f = rw z f
