use native.Mathlib.Omega.{arith}
use mathlib.Core.Path.{refl}
use Rattle.characters.proofs.Passed.{passed_run}
use Rattle.characters.proofs.Window.{window_end, window_all}
use Rattle.blocks.proofs.inner.ending.Goals as goal

pub returns-then-ends_ascii : goal.returns-then-ends_ascii
returns-then-ends_ascii c = let (r, z) = c.ends_ascii.ensures.so c.if-ends_ascii.true in
    passed_run _ _ _ _ (window_end _ _ _ c.requires.0 _ refl z) r

pub returns-then-ends_well : goal.returns-then-ends_well
returns-then-ends_well c = let (s, z) = c.ends_well.ensures.so c.if-ends_well.true in
    window_all _ _ _ c.requires.0 _ s z (omega arith) c.few_left.ensures.0 c.few_left.ensures.1
