use Rattle.std.specs.Prelude.{◌-◌}
use Rattle.json_texts.proofs.Moves.{moved_none, room_eight, moved_eight}
use Rattle.json_texts.proofs.inner.copy_eights.Goals as goal

pub loop-i-init : goal.loop-i-init
loop-i-init c = search moved_none

pub copy_few-requires : goal.copy_few-requires
copy_few-requires c = search room_eight

pub loop-i-preserved : goal.loop-i-preserved
loop-i-preserved c = moved_eight
    c.requires
    c.loop-i.invariant
    c.plain_eight.ensures
    c.if-not-plain_eight.false
    c.loop-i-test.true
    c.copy_few.ensures
