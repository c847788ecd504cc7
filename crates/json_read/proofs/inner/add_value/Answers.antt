use Rattle.json_read.proofs.Feeding.{retain_sized, delete_sized, insert_sized, retain_fed, delete_fed, insert_fed}
use borrow.Author.Rules.{rules}
use Rattle.json_read.proofs.inner.add_value.Goals as goal

pub add_retain-requires : goal.add_retain-requires
add_retain-requires c = (search retain_sized, search rules)

pub add_delete-requires : goal.add_delete-requires
add_delete-requires c = (search delete_sized, search rules, search rules)

pub add_insert-requires : goal.add_insert-requires
add_insert-requires c = (search insert_sized, search rules, search rules, search rules)

pub returns-in-Retain : goal.returns-in-Retain
returns-in-Retain c = search retain_fed

pub returns-in-Delete : goal.returns-in-Delete
returns-in-Delete c = search delete_fed

pub returns-in-Insert : goal.returns-in-Insert
returns-in-Insert c = search insert_fed
