use Rattle.json_write.proofs.Values.{retain_room, retain_puts, insert_inside, insert_room, insert_puts, delete_room, delete_puts}
use borrow.Author.Rules.{rules}
use Rattle.json_write.proofs.inner.write_value.Goals as goal

pub write_decimal-requires : goal.write_decimal-requires
write_decimal-requires c = (search rules, search retain_room)

pub returns-in-Retain : goal.returns-in-Retain
returns-in-Retain c = search retain_puts

pub write_string-requires : goal.write_string-requires
write_string-requires c = (search rules, search insert_inside, search insert_room)

pub returns-in-Insert : goal.returns-in-Insert
returns-in-Insert c = search insert_puts

pub write_negative-requires : goal.write_negative-requires
write_negative-requires c = (search rules, search delete_room)

pub returns-in-Delete : goal.returns-in-Delete
returns-in-Delete c = search delete_puts
