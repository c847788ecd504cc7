use native.Mathlib.Omega.{arith}
use Rattle.reader.proofs.Fronts.{fault_few}
use lib.ListN.{length-set}
use Rattle.json_write.proofs.Lists.{first_room, second_room, list_none, list_start, left_room, list_more, list_end, same_long}
use borrow.Author.Rules.{rules}
use Rattle.json_write.proofs.inner.write_list.Goals as goal

pub bounds-out-0 : goal.bounds-out-0
bounds-out-0 c = search first_room

pub bounds-out-1 : goal.bounds-out-1
bounds-out-1 c = search second_room

pub shape_of-out-then-n-eq0 : goal.shape_of-out-then-n-eq0
shape_of-out-then-n-eq0 c = simp length-set

pub returns-then-n-eq0 : goal.returns-then-n-eq0
returns-then-n-eq0 c = search list_none

pub text_start-from-requires : goal.text_start-from-requires
text_start-from-requires c = let h = fault_few _ _ c.requires.0 c.requires.1 in omega arith

pub loop-s-init : goal.loop-s-init
loop-s-init c = search list_start

pub write_next-s-requires : goal.write_next-s-requires
write_next-s-requires c = (search rules, search rules, search rules, search rules, search left_room)

pub loop-s-preserved : goal.loop-s-preserved
loop-s-preserved c = search list_more

pub shape_of-out : goal.shape_of-out
shape_of-out c = search same_long

pub returns : goal.returns
returns c = search list_end
