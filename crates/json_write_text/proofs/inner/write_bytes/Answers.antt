use Rattle.json_write_text.proofs.Texts.{text_start, byte_room, byte_more, text_end}
use Rattle.json_write_text.proofs.inner.write_bytes.Goals as goal

pub loop-i-init : goal.loop-i-init
loop-i-init c = search text_start

pub write_byte-end-requires : goal.write_byte-end-requires
write_byte-end-requires c = search byte_room

pub loop-i-preserved : goal.loop-i-preserved
loop-i-preserved c = search byte_more

pub returns : goal.returns
returns c = search text_end
