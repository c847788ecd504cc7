-- What the functions below `compose` promise each other. No entry's contract cites this.
use Rattle.std.specs.Prelude.{ℕ, List}
use Rattle.record.specs.Layout.{base_of, target_of}
use Rattle.emitter.specs.declared.inner.Emitter.{Emitter}
use Rattle.compose.specs.declared.inner.Sizes.{Sizes}

-- the sizes of a result from the base of `a` to the target of `b`
abbrev pub between : List ℕ → List ℕ → Sizes → Emitter
between a b z = record { ins = 0; del = 0; ret = 0; ops = z.ops; text = z.text; base = base_of a; target = target_of b }
