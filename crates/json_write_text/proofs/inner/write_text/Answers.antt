use Rattle.json_write_text.proofs.Texts.{text_start, part_room, part_more, text_room, text_last}
use borrow.Author.Rules.{rules}
use Rattle.json_write_text.proofs.inner.write_text.Goals as goal

pub loop-i-init : goal.loop-i-init
loop-i-init c = search text_start

pub write_eight-end-requires : goal.write_eight-end-requires
write_eight-end-requires c = (search rules, search part_room)

pub loop-i-preserved : goal.loop-i-preserved
loop-i-preserved c = search part_more

pub write_bytes-requires : goal.write_bytes-requires
write_bytes-requires c = (search rules, search rules, search text_room)

pub returns : goal.returns
returns c = search text_last
