use Rattle.undo.proofs.Inverting.{admit_many, admit_few, admit_past, admit_newest}
use Rattle.undo.proofs.admit_inverse.Goals as goal

pub returns-then-s-ge-MAX_REVISIONS : goal.returns-then-s-ge-MAX_REVISIONS
returns-then-s-ge-MAX_REVISIONS c = search admit_many

pub append_unmoved-requires : goal.append_unmoved-requires
append_unmoved-requires c = (search admit_few, search admit_newest)

pub in_medium_buffers-requires : goal.in_medium_buffers-requires
in_medium_buffers-requires c = (search admit_few, search admit_past)
