use Rattle.json_write_text.proofs.Texts.{eight_room, eight_puts, each_room, each_puts}
use Rattle.json_write_text.proofs.Escapes.{eight_laid}
use borrow.Author.Rules.{rules}
use Rattle.json_write_text.proofs.inner.write_eight.Goals as goal

pub copy_array-requires : goal.copy_array-requires
copy_array-requires c = (search eight_room, search rules)

pub returns-then-raw_eight : goal.returns-then-raw_eight
returns-then-raw_eight c = let h = eight_laid c.args.at c.args.rec.now c.args.from c.args.out.now _ (search rules) (search eight_room) c.copy_array.ensures in search eight_puts

pub write_bytes-requires : goal.write_bytes-requires
write_bytes-requires c = (search rules, search rules, search each_room)

pub returns : goal.returns
returns c = search each_puts
