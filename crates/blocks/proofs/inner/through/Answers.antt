use mathlib.Core.Path.{refl}
use borrow.Author.Tests.{not-false}
use Rattle.characters.proofs.Window.{window_first}
use Rattle.blocks.proofs.inner.through.Goals as goal

pub pass-w-requires : goal.pass-w-requires
pass-w-requires c = let (l, h, z) = c.begins.ensures.so c.if-not-begins.false in
    window_first _ _ _ _ c.requires l refl z

pub ending-requires : goal.ending-requires
ending-requires c = let (l, h, z) = c.begins.ensures.so c.if-not-begins.false in
    (c.pass-w.ensures, h)
