use Rattle.json_texts.proofs.Moves.{escape_there, code_small, room_scalar, moved_scalar}
use Rattle.json_texts.proofs.inner.copy_escape.Goals as goal

pub unwrap-e-requires : goal.unwrap-e-requires
unwrap-e-requires c = search escape_there

pub write_scalar-end-requires : goal.write_scalar-end-requires
write_scalar-end-requires c = search (code_small, room_scalar)

pub returns : goal.returns
returns c = search moved_scalar
